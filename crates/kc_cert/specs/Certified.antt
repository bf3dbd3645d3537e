-- When a certificate is certified: the conditions C1 to C17, each a fact of its own. This project's own.
use Rattle.std.specs.Prelude.{◌≡◌, ℕ, List, All, IsTrue, IfSome, IsSomeAnd, slice_get, Option, Some, None, false}
use Rattle.kc_image.specs.Image.{Contents}
use Rattle.kc_insn.specs.declared.insn.Insn.{Insn}
use Rattle.kc_regions.specs.Description.{Description}
use Rattle.kc_state.specs.AbsEffect.{moment_of}
use Rattle.kc_state.specs.Conditions.{AbsAccess, accesses_of, calls_well, is_allowed, is_clear, is_exact, is_permitted, loads_known_cr3, restores, uses_kernel_gs}
use Rattle.kc_cert.specs.Code.{insn_at}
use Rattle.kc_cert.specs.Conditions.{are_successors_covered, is_event_counted, is_event_covered, is_home_counted, is_node_counted, is_return_covered, is_start_covered, is_text, is_user_covered, is_user_event_covered}
use Rattle.kc_cert.specs.Form.{HasForm}
use Rattle.kc_cert.specs.Placed.{Placed, change, events_of, moment, user_vectors}
use Rattle.kc_cert.specs.declared.certificate.Certificate.{Certificate}
use Rattle.kc_cert.specs.declared.certificate.Context.{Context}
use Rattle.kc_cert.specs.declared.certificate.Digests.{Digests}
use Rattle.kc_cert.specs.declared.certificate.Node.{Node}

-- ---- what the conditions speak of

-- node n of context c with the instruction at its site
abbrev pub placed : Context → Node → Insn × ℕ → Placed
placed c n (insn, len) = record { key = c.key; site = n.site; state = n.state; insn = insn; len = len }

-- each node, with its context
abbrev pub EachNode : Certificate → (Context → Node → Type 0) → Type 0
EachNode cert P = All (λ n. IfSome (slice_get cert.contexts n.context) (λ c. P c n)) cert.nodes

-- each node whose site has an instruction, with its context and the instruction
abbrev pub EachPlaced : Contents → Certificate → (Context → Node → Placed → Type 0) → Type 0
EachPlaced image cert P = EachNode cert (λ c n. IfSome (insn_at image n.site.at) (λ x. P c n (placed c n x)))

-- each instruction, not the bodies of handlers
abbrev pub EachInsn : Contents → Certificate → (Placed → Type 0) → Type 0
EachInsn image cert P = EachPlaced image cert (λ c n p. p.site.inside ≡ false → P p)

-- each event at each node, by its vector
abbrev pub EachEvent : Contents → Description → Certificate → (Context → Placed → ℕ → Type 0) → Type 0
EachEvent image d cert P = EachPlaced image cert (λ c n p. All (P c p) (events_of d p))

abbrev pub accesses : Description → Placed → List AbsAccess
accesses d p = accesses_of (moment d p) p.insn (change d p).store

-- ---- C14 and C16 have two parts each

-- each event has a permitted frame and a context that covers what is known at its entry
pub record EventsCovered (image : Contents) (d : Description) (cert : Certificate) : Type 0 where
  pub user : All (λ v. IsTrue (is_user_event_covered d cert (Some v))) (user_vectors d cert.user)
  pub syscall : IsTrue (is_user_event_covered d cert None)
  pub nodes : EachEvent image d cert (λ c p v. IsTrue (is_event_covered d cert p v))

-- a context's summary covers what its events' contexts may write, and what it may itself write, with the latches at its
-- returns
pub record SummariesCover (image : Contents) (d : Description) (cert : Certificate) : Type 0 where
  pub events : EachEvent image d cert (λ c p v. IsTrue (is_event_counted image d cert c.summary.clobber p v))
  pub homes : All (λ c. IsTrue (is_home_counted d c)) cert.contexts
  pub nodes : EachPlaced image cert (λ c n p. IsTrue (is_node_counted d c.summary p))

-- ---- the seventeen conditions

pub record IsCertified (image : Contents) (d : Description) (due : Digests) (cert : Certificate) : Type 0 where
  -- C1: the digests are those of the two files
  pub digests : cert.digests ≡ due
  -- C2: keys and nodes are in their form and order, and each context has its entry node
  pub table_form : HasForm d cert
  -- C3: the user state covers the start
  pub start_covered : IsTrue (is_start_covered d cert)
  -- C4: the GS pair, CR3 and RSP are exact
  pub exact_spaces : EachNode cert (λ c n. IsTrue (is_exact (moment_of d c.key n.state 0) n.site.inside))
  -- C5: the instruction is decodable executable text, and inside a handler it calls one
  pub executable_text : EachNode cert
      (λ c n. IsSomeAnd (insn_at image n.site.at) (λ x. IsTrue (is_text d (placed c n x))))
  -- C6: a GS access uses the kernel's base
  pub kernel_gs : EachInsn image cert (λ p. IsTrue (uses_kernel_gs (moment d p) (accesses d p)))
  -- C7: each access is permitted
  pub access_permitted : EachInsn image cert (λ p. IsTrue (is_permitted (moment d p) p.insn (accesses d p)))
  -- C8: no live stack byte is written
  pub no_live_byte_written : EachInsn image cert
      (λ p. IsTrue (is_clear (moment d p) p.state.floors (accesses d p)))
  -- C9: CR3 is loaded with one of its two values
  pub cr3_value : EachInsn image cert (λ p. IsTrue (loads_known_cr3 (moment d p) p.insn))
  -- C10: a handler is called with the kernel's GS base and CR3 and a free stack
  pub handler_call : EachInsn image cert (λ p. IsTrue (calls_well (moment d p) p.state.floors p.insn))
  -- C11: no instruction or register number is forbidden
  pub nothing_forbidden : EachInsn image cert (λ p. IsTrue (is_allowed (moment d p) p.insn))
  -- C12: a return restores the interrupted context
  pub return_test : EachInsn image cert (λ p. IsTrue (restores (moment d p) p.insn))
  -- C13: each successor is covered
  pub successor_covered : EachPlaced image cert (λ c n p. IsTrue (are_successors_covered d cert n.context p))
  -- C14: each event has a permitted frame and a context that covers it
  pub event_covered : EventsCovered image d cert
  -- C15: the state after each event's return is covered
  pub after_return_covered : EachEvent image d cert (λ c p v. IsTrue (is_return_covered image d cert p v))
  -- C16: the summary covers writes and latches
  pub summary_covers : SummariesCover image d cert
  -- C17: the user state covers each return to the user
  pub user_state_covers : EachPlaced image cert (λ c n p. IsTrue (is_user_covered cert p))
