-- What a refusal is explained by, this project's own: the line of the refusal; at a node its instruction and what is
-- known there; and what the condition asks. Each line ends with one byte 0A.
use Rattle.std.specs.Prelude.{ℕ, List, [], ◌∷◌, ◌++◌, codes, get_or, slice_index_or, Option, Some, None}
use Rattle.kc_bits.specs.Bits.{bits_single}
use Rattle.kc_image.specs.Image.{Contents}
use Rattle.kc_insn.specs.declared.insn.Insn.{Insn}
use Rattle.kc_regions.specs.Description.{Description}
use Rattle.kc_space.specs.declared.gs.GsPair.{GsPair}
use Rattle.kc_space.specs.declared.map.MapState.{MapState}
use Rattle.kc_space.specs.declared.map.MapState.TheVariants as map
use Rattle.kc_space.specs.declared.tri.Tri.{Tri}
use Rattle.kc_space.specs.declared.tri.Tri.TheVariants as tri
use Rattle.kc_space.specs.declared.who.Who.{Who}
use Rattle.kc_space.specs.declared.who.Who.TheVariants as who
use Rattle.kc_text.specs.Text.{disp_text, text_of}
use Rattle.kc_value.specs.AbsValue.{AbsValue}
use Rattle.kc_value.specs.Value.{value_top}
use Rattle.kc_value.specs.declared.symbol.Sym.{Sym}
use Rattle.kc_value.specs.declared.symbol.Sym.TheVariants.{Plain, Base, Entry, UserGs}
use Rattle.kc_state.specs.declared.state.AbsState.{AbsState}
use Rattle.kc_cert.specs.Code.{insn_at}
use Rattle.kc_cert.specs.Table.{node_at}
use Rattle.kc_cert.specs.declared.certificate.Certificate.{Certificate}
use Rattle.kc_cert.specs.declared.certificate.Node.{Node}
use Rattle.kc_cert.specs.declared.refusal.Refusal.{Refusal}
use Rattle.kc_cert.specs.declared.refusal.Spot.{Spot}
use Rattle.kc_cert.specs.declared.refusal.Spot.TheVariants as spot
use Rattle.kc_explain.specs.Lines.{address_text, refused_line}

-- ---- what is known at a node

-- whose GS base it is
abbrev pub who_text : Who → List ℕ
who_text who.Kernel = codes "kernel"
who_text who.User = codes "user"
who_text who.Any = codes "any"

-- which CR3 is loaded
abbrev pub map_text : MapState → List ℕ
map_text map.Kernel = codes "kernel"
map_text map.User = codes "user"
map_text map.Any = codes "any"

-- whether NMIs are blocked
abbrev pub nmi_text : Tri → List ℕ
nmi_text tri.Yes = codes "blocked"
nmi_text tri.No = codes "open"
nmi_text tri.Any = codes "any"

-- the words of the interrupted processor by number: its registers, RIP, RFLAGS, CS and SS
abbrev pub word_names : List (List ℕ)
word_names =
    codes "rax" ∷ codes "rcx" ∷ codes "rdx" ∷ codes "rbx" ∷ codes "rsp" ∷ codes "rbp" ∷ codes "rsi" ∷ codes "rdi"
    ∷ codes "r8" ∷ codes "r9" ∷ codes "r10" ∷ codes "r11" ∷ codes "r12" ∷ codes "r13" ∷ codes "r14" ∷ codes "r15"
    ∷ codes "rip" ∷ codes "rflags" ∷ codes "cs" ∷ codes "ss" ∷ []

abbrev pub word_text : ℕ → List ℕ
word_text w = slice_index_or word_names w []

-- an offset of 0 is left out, and another one has its sign
abbrev pub symbol_text : Sym → List ℕ
symbol_text Plain = codes "any"
symbol_text (Base k) = codes "base" ++ disp_text k
symbol_text (Entry w) = codes "entry " ++ word_text w
symbol_text UserGs = codes "user gs"

abbrev pub number_text : Sym → Option ℕ → List ℕ
number_text sym (Some n) = codes "constant " ++ address_text n
number_text sym None = symbol_text sym

-- the number where all bits are known, and else what the symbol says
abbrev pub value_text : AbsValue → List ℕ
value_text v = number_text v.sym (bits_single v.bits)

abbrev pub rsp_of : AbsState → AbsValue
rsp_of s = get_or s.regs 4 value_top

abbrev pub gs_line : GsPair → List ℕ
gs_line gs = codes "gs active " ++ who_text gs.active ++ codes " inactive " ++ who_text gs.inactive ++ codes "\n"

abbrev pub map_line : MapState → List ℕ
map_line m = codes "map " ++ map_text m ++ codes "\n"

abbrev pub nmi_line : Tri → List ℕ
nmi_line blocked = codes "nmi " ++ nmi_text blocked ++ codes "\n"

abbrev pub rsp_line : AbsValue → List ℕ
rsp_line rsp = codes "rsp " ++ value_text rsp ++ codes "\n"

abbrev pub state_lines : AbsState → List ℕ
state_lines s = gs_line s.gs ++ map_line s.map ++ nmi_line s.latches.nmi_blocked ++ rsp_line (rsp_of s)

-- what the image's bytes spell at the site, whatever the regions say
abbrev pub instruction_text : Option (Insn × ℕ) → List ℕ
instruction_text (Some (insn, len)) = text_of insn
instruction_text None = codes "none"

abbrev pub instruction_line : Contents → ℕ → List ℕ
instruction_line image a = codes "instruction " ++ instruction_text (insn_at image a) ++ codes "\n"

-- nothing is said of a node that the certificate lacks
abbrev pub node_lines : Contents → ℕ → Option Node → List ℕ
node_lines image a (Some n) = instruction_line image a ++ state_lines n.state
node_lines image a None = []

-- what is known where a condition fails: at a node alone there are lines of it
abbrev pub spot_lines : Contents → Certificate → Spot → List ℕ
spot_lines image cert spot.Table = []
spot_lines image cert spot.User = []
spot_lines image cert (spot.Context i) = []
spot_lines image cert (spot.Node i site) = node_lines image site.at (node_at cert i site)

-- ---- what the condition asks

-- by the condition's number; there is no condition 0
abbrev pub because_texts : List (List ℕ)
because_texts =
    []
    ∷ codes "the certificate is for another image or configuration"
    ∷ codes "a key, a stack count or an entry node is missing"
    ∷ codes "the user state does not cover the start"
    ∷ codes "the GS pair, CR3 or RSP is not exact"
    ∷ codes "the instruction is not decodable executable text under this map"
    ∷ codes "a GS access may use a base other than the kernel's"
    ∷ codes "an address is unknown, absent or not permitted"
    ∷ codes "a write may reach live stack bytes"
    ∷ codes "CR3 may be loaded with a third value"
    ∷ codes "a handler is called without kernel GS, kernel CR3 or a free stack"
    ∷ codes "the instruction or register number is forbidden"
    ∷ codes "the return does not restore the interrupted context"
    ∷ codes "a successor is not covered"
    ∷ codes "an event has no permitted frame or no covering context"
    ∷ codes "the state after an event's return is not covered"
    ∷ codes "the summary lacks a write or a latch"
    ∷ codes "the user state does not cover a return"
    ∷ []

-- nothing for a number that isn't a condition's
abbrev pub because_text : ℕ → List ℕ
because_text c = slice_index_or because_texts c []

abbrev pub because_line : ℕ → List ℕ
because_line c = codes "because " ++ because_text c ++ codes "\n"

-- ---- the explanation

abbrev pub explanation : Contents → Description → Certificate → Refusal → List ℕ
explanation image d cert r = refused_line d r ++ spot_lines image cert r.spot ++ because_line r.condition.0
