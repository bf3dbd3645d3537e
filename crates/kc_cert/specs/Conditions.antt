-- C3, and C5 to C17 but for what kc_state has of them, each a test. This project's own.
use Rattle.std.specs.Prelude.{ℕ, ◌+◌, ◌-◌, Bool, true, false, cond, not, ◌&&◌, ◌||◌, ◌==◌, nat_lt, nat_le, if◌then◌else◌, List, filter, slice_get, get_or, Option, Some, None, is_some}
use Rattle.std.specs.List.{list_all, list_any}
use Rattle.kc_frames.specs.Clobber.{clobber_below, nothing_written}
use Rattle.kc_frames.specs.ClobberSets.{ClobberSets}
use Rattle.kc_frames.specs.Slots.{every_slot, redone}
use Rattle.kc_image.specs.Image.{Contents}
use Rattle.kc_insn.specs.declared.insn.Insn.{Insn}
use Rattle.kc_regions.specs.Description.{Description}
use Rattle.kc_regions.specs.declared.entry.Word.{Word}
use Rattle.kc_regions.specs.declared.touch.Touch.TheVariants.{Fetch}
use Rattle.kc_space.specs.Latches.{latches_below}
use Rattle.kc_space.specs.declared.tri.Tri.TheVariants.{No}
use Rattle.kc_value.specs.AbsValue.{AbsValue}
use Rattle.kc_value.specs.Value.{value_top}
use Rattle.kc_state.specs.Access.{may_bytes}
use Rattle.kc_state.specs.AbsDelivery.{user_entry}
use Rattle.kc_state.specs.AbsEvents.{handler_called_by}
use Rattle.kc_state.specs.AbsReturn.{returned}
use Rattle.kc_state.specs.Operand.{number_value}
use Rattle.kc_state.specs.Places.{home_stack}
use Rattle.kc_state.specs.State.{state_below}
use Rattle.kc_state.specs.User.{user_below}
use Rattle.kc_state.specs.declared.key.Key.{Key}
use Rattle.kc_state.specs.declared.site.Site.{Site}
use Rattle.kc_state.specs.declared.state.AbsState.{AbsState}
use Rattle.kc_state.specs.declared.summary.Summary.{Summary}
use Rattle.kc_state.specs.declared.user.UserState.{UserState}
use Rattle.kc_cert.specs.Code.{insn_at}
use Rattle.kc_cert.specs.Placed.{Placed, Successors, successors, entered_by, entry_site, is_return, is_return_insn, latches_after, user_after, with_stack_in, written_by}
use Rattle.kc_cert.specs.Table.{covers, nodes_of, number_of}
use Rattle.kc_cert.specs.declared.certificate.Certificate.{Certificate}
use Rattle.kc_cert.specs.declared.certificate.Context.{Context}
use Rattle.kc_cert.specs.declared.certificate.Node.{Node}

-- ---- C3: the user state covers the start

abbrev pub word_value : Description → Option Word → AbsValue
word_value d (Some w) = number_value d w.value
word_value d None = value_top

-- RSP0, IST1 to IST7 and the description's words have the values that it gives
abbrev pub start_slot : Description → ℕ → AbsValue
start_slot d i =
    if i == 0 then number_value d d.cpu.rsp0 else
    if nat_lt i 8 then number_value d (get_or d.cpu.ist (i - 1) 0) else word_value d (slice_get d.words (i - 8))

-- no latch is set at the start
abbrev pub start_user : Description → UserState
start_user d = record { nmi_blocked = No; mcip = No; slots = redone (λ i old. start_slot d i) 0 (every_slot value_top) }

abbrev pub is_start_covered : Description → Certificate → Bool
is_start_covered d cert = user_below (start_user d) cert.user

-- ---- C5: the instruction is decodable executable text

-- its bytes may be executed, and inside a handler it is a call of one
abbrev pub is_text : Description → Placed → Bool
is_text d p =
    may_bytes d p.state.map Fetch p.site.at p.len && (not p.site.inside || is_some (handler_called_by d p.insn))

-- ---- C13: each successor is covered

abbrev pub are_covered : Certificate → ℕ → Successors → Bool
are_covered cert i next = list_all (λ site. covers cert i site next.state) next.sites

abbrev pub are_successors_covered : Description → Certificate → ℕ → Placed → Bool
are_successors_covered d cert i p = are_covered cert i (successors d p)

-- ---- C14: an event has a permitted frame and a context that covers it

abbrev pub covers_at : Certificate → ℕ → Option Site → AbsState → Bool
covers_at cert i (Some site) s = covers cert i site s
covers_at cert i None s = false

abbrev pub covers_entry : Description → Certificate → Key → AbsState → Option ℕ → Bool
covers_entry d cert key s (Some i) = covers_at cert i (entry_site d key) s
covers_entry d cert key s None = false

-- there is a permitted frame, the key is a context's, and what is known at its entry is covered
abbrev pub is_entry_covered : Description → Certificate → Option (Key × AbsState) → Bool
is_entry_covered d cert (Some (key, s)) = covers_entry d cert key s (number_of cert key)
is_entry_covered d cert None = false

abbrev pub is_event_covered : Description → Certificate → Placed → ℕ → Bool
is_event_covered d cert p v = is_entry_covered d cert (entered_by d p v)

-- the same while the user runs, of a vector or of SYSCALL
abbrev pub is_user_event_covered : Description → Certificate → Option ℕ → Bool
is_user_event_covered d cert entry = is_entry_covered d cert (user_entry d cert.user entry)

-- ---- which contexts return

abbrev pub is_return_at : Option (Insn × ℕ) → Bool
is_return_at (Some (insn, len)) = is_return_insn insn
is_return_at None = false

-- the image has an IRETQ or a SYSRETQ at the node
abbrev pub is_return_node : Contents → Node → Bool
is_return_node image n = not n.site.inside && is_return_at (insn_at image n.site.at)

-- context i returns: one of its nodes is at a return
abbrev pub returns : Contents → Certificate → ℕ → Bool
returns image cert i = list_any (λ n. (n.context == i) && is_return_node image n) cert.nodes

-- the summary of a context that returns
abbrev pub summary_if : Bool → Option Context → Option Summary
summary_if true (Some c) = Some c.summary
summary_if true None = None
summary_if false c = None

abbrev pub summary_of : Contents → Certificate → Option ℕ → Option Summary
summary_of image cert (Some i) = summary_if (returns image cert i) (slice_get cert.contexts i)
summary_of image cert None = None

abbrev pub number_entered : Certificate → Option (Key × AbsState) → Option ℕ
number_entered cert (Some (key, s)) = number_of cert key
number_entered cert None = None

-- the summary of the context that an event at a node enters, if it returns
abbrev pub event_summary : Contents → Description → Certificate → Placed → ℕ → Option Summary
event_summary image d cert p v = summary_of image cert (number_entered cert (entered_by d p v))

-- ---- C15: the state after each event's return is covered

abbrev pub is_kept : Description → Placed → Option Summary → Bool
is_kept d p (Some summary) = state_below (returned d p.key p.state summary) p.state
is_kept d p None = true

abbrev pub is_return_covered : Contents → Description → Certificate → Placed → ℕ → Bool
is_return_covered image d cert p v = is_kept d p (event_summary image d cert p v)

-- ---- C16: the summary covers writes and latches

abbrev pub holds_clobber : ClobberSets → Option Summary → Bool
holds_clobber c (Some summary) = clobber_below summary.clobber c
holds_clobber c None = true

-- at a node: what an event's context may write, this one may
abbrev pub is_event_counted : Contents → Description → Certificate → ClobberSets → Placed → ℕ → Bool
is_event_counted image d cert c p v = holds_clobber c (event_summary image d cert p v)

-- at a context: the stack of its frame, what its nodes may write, and the latches at its returns
abbrev pub is_home_counted : Description → Context → Bool
is_home_counted d c = clobber_below (with_stack_in nothing_written (home_stack d c.key)) c.summary.clobber

abbrev pub is_node_counted : Description → Summary → Placed → Bool
is_node_counted d summary p =
    clobber_below (written_by d p) summary.clobber
    && (not (is_return p) || latches_below (latches_after p) summary.latches)

-- ---- C17: the user state covers each return to the user

abbrev pub is_user_covered : Certificate → Placed → Bool
is_user_covered cert p = p.key.kernel || (not (is_return p) || user_below (user_after p) cert.user)
