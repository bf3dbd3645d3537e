-- What the reader of traces keeps to itself, by what takes, gives or holds it.
use Rattle.std.proofs.Common.{◌≡◌, refl, ℕ, List, Result, Ok}
use Rattle.kc_rules.specs.Rules.{◌>>=◌}
use Rattle.kc_trace.specs.declared.assignment.Assignment.{Assignment}
use Rattle.kc_trace.specs.declared.line.Line.{Line}
use Rattle.kc_trace.specs.declared.line.Line.TheVariants.{Start, Body, Leave}
use Rattle.kc_trace.specs.Assignments.{may_set_named, assignments}
use Rattle.kc_trace.specs.Form.{start_line, body_line, leave_line}
use Rattle.kc_trace.specs.Script.{nothing, fault_at}

abbrev type_of : {A : Type 0} → A → Type 0
type_of {A} a = A

abbrev taken_by : {A B : Type 0} → (A → B) → Type 0
taken_by {A} f = A

-- who sets what an assignment names
abbrev pub Setter : Type 0
Setter = taken_by may_set_named

-- what a line needs to know of those before it
abbrev pub Place : Type 0
Place = type_of nothing.place

-- the fault of a line
abbrev pub LineFault : Type 0
LineFault = taken_by (fault_at 0)

-- the setter of a line's assignments
abbrev setter_of : (setter : Setter) (line : List (List ℕ) → Result Line LineFault) (make : List Assignment → Line)
    → ((ws : List (List ℕ)) → line ws ≡ (assignments setter ws >>= (λ set. Ok (make set)))) → Setter
setter_of setter line make is = setter

abbrev pub by_user : Setter
unfolding start_line
by_user = setter_of _ start_line Start (λ ws. refl)

abbrev pub by_body : Setter
unfolding body_line
by_body = setter_of _ body_line Body (λ ws. refl)

abbrev pub by_leave : Setter
unfolding leave_line
by_leave = setter_of _ leave_line Leave (λ ws. refl)
