-- A run's turns in a row. What is told of later turns comes after what was told of earlier ones, so two parts of a run
-- make one: by the definition of a part, where the lists of turns and the texts are put together.
use Rattle.std.proofs.Common.{◌≡◌, ℕ, suc, ◌+◌, Bool, true, inl, inr, List, [], ◌∷◌, Option, Some, None, Result, Ok, Err, ◌++◌, length, append_assoc, string_bytes, refl, ap, sym, ◌∙◌, arith, subst}
use Rattle.std.specs.Prelude.{IsSome, IfOk}
use Rattle.std.proofs.lemmas.Bool.{false≢true}
use Rattle.std.proofs.lemmas.List.{append-nil, length-append}
use Rattle.std.specs.Option.{option_map, unwrap_or}
use Rattle.kc_image.specs.Image.{Contents}
use Rattle.kc_regions.specs.Description.{Description}
use Rattle.kc_cpu.specs.declared.cpu.Cpu.{Cpu}
use Rattle.kc_exec.specs.declared.state.State.{State}
use Rattle.kc_events.specs.declared.turn.Turn.{Turn}
use Rattle.kc_machine.specs.Machine.{MachineValue}
use Rattle.kc_replay.specs.declared.run.Run.{Run}
use Rattle.kc_replay.specs.declared.run.Progress.{Progress}
use Rattle.kc_replay.specs.declared.run.Progress.TheVariants.{GoesOn, Over}
use Rattle.kc_trace.specs.declared.line.Line.{Line}
use Rattle.kc_replay.specs.Turns.{one, turns_of, first_set}
use Rattle.kc_replay.specs.Told.{Tells, IsReplayed, Passes, EndsRun, turns_line}
use Rattle.kc_replay.specs.Progress.{LeadsTo, EndsIn, Advances, IsFresh, is_clean}

-- ---- two parts

moved : (cfg other : Description) (image contents : Contents) → cfg ≡ other → image ≡ contents → (n : ℕ) (S : State)
    (turns : List (Cpu → Turn)) (text : List ℕ) (clean : Bool)
    → Tells cfg image n S turns text clean → Tells other contents n S turns text clean
moved cfg other image contents c i n S turns text clean told =
    subst (λ (d : Description). Tells d contents n S turns text clean) c
    (subst (λ (m : Contents). Tells cfg m n S turns text clean) i told)

joined : (cfg : Description) (image : Contents) (n : ℕ) (S : State) (first second rest : List (Cpu → Turn))
    (told later more : List ℕ) (clean : Bool)
    → Tells cfg image n S (first ++ (second ++ rest)) (told ++ (later ++ more)) clean
    → Tells cfg image n S ((first ++ second) ++ rest) ((told ++ later) ++ more) clean
joined cfg image n S first second rest told later more clean all =
    subst (λ (turns : List (Cpu → Turn)). Tells cfg image n S turns ((told ++ later) ++ more) clean)
    (sym (append_assoc first second rest))
    (subst (λ (text : List ℕ). Tells cfg image n S (first ++ (second ++ rest)) text clean)
    (sym (append_assoc told later more)) all)

pub nowhere : (P : Run) → LeadsTo P P []
nowhere P = record {
  config = refl;
  image = refl;
  count = omega arith;
  told = [];
  added = sym (append-nil (string_bytes P.told));
  tells = λ rest more clean told. told;
}

texts : (before told later middle after : List ℕ) → middle ≡ before ++ told → after ≡ middle ++ later
    → after ≡ before ++ (told ++ later)
texts before told later middle after first second =
    second ∙ ap (λ t. t ++ later) first ∙ append_assoc before told later

leads_on : (P Q R : Run) (first second : List (Cpu → Turn)) → LeadsTo P Q first → LeadsTo Q R second
    → LeadsTo P R (first ++ second)
leads_on P Q R first second one two =
    let a = one.count in
    let b = two.count in
    let c : length (first ++ second) ≡ length first + length second = length-append first second in
    record {
      config = two.config ∙ one.config;
      image = two.image ∙ one.image;
      count = omega (arith, a, b, c);
      told = one.told ++ two.told;
      added = texts (string_bytes P.told) one.told two.told (string_bytes Q.told) (string_bytes R.told) one.added
          two.added;
      tells = λ rest more clean later.
          joined P.machine.config P.machine.image P.count P.machine.state first second rest one.told two.told more clean
          (one.tells (second ++ rest) (two.told ++ more) clean
          (moved Q.machine.config P.machine.config Q.machine.image P.machine.image one.config one.image Q.count
          Q.machine.state (second ++ rest) (two.told ++ more) clean
          (two.tells rest more clean
          (moved P.machine.config Q.machine.config P.machine.image Q.machine.image (sym one.config) (sym one.image)
          R.count R.machine.state rest more clean later))));
    }

ends_later : (P Q R : Run) (first second : List (Cpu → Turn)) (clean : Bool) → LeadsTo P Q first
    → EndsIn Q R second clean → EndsIn P R (first ++ second) clean
ends_later P Q R first second clean one two = record {
  told = one.told ++ two.told;
  added =
      texts (string_bytes P.told) one.told two.told (string_bytes Q.told) (string_bytes R.told) one.added two.added;
  tells = λ rest.
      joined P.machine.config P.machine.image P.count P.machine.state first second rest one.told two.told
      (turns_line R.count) clean
      (one.tells (second ++ rest) (two.told ++ turns_line R.count) clean
      (moved Q.machine.config P.machine.config Q.machine.image P.machine.image one.config one.image Q.count
      Q.machine.state (second ++ rest) (two.told ++ turns_line R.count) clean (two.tells rest)));
}

-- the turns of the first part, and then those of the second
pub goes_on : (P Q R : Run) (first second : List (Cpu → Turn)) (end : Progress) → LeadsTo P Q first
    → Advances Q R second end → Advances P R (first ++ second) end
goes_on P Q R first second GoesOn one two = leads_on P Q R first second one two
goes_on P Q R first second (Over clean) one two = ends_later P Q R first second clean one two

-- what is over stays over
pub is_over : (P Q : Run) (first second : List (Cpu → Turn)) (clean : Bool) → EndsIn P Q first clean
    → EndsIn P Q (first ++ second) clean
is_over P Q first second clean one = record {
  told = one.told;
  added = one.added;
  tells = λ rest.
      subst (λ (turns : List (Cpu → Turn)).
      Tells P.machine.config P.machine.image P.count P.machine.state turns (one.told ++ turns_line Q.count) clean)
      (sym (append_assoc first second rest)) (one.tells (second ++ rest));
}

-- ---- one turn

next_count : (P Q : Run) → Q.count ≡ P.count + 1 → suc P.count ≡ Q.count
next_count P Q count = omega (arith, count)

-- a turn that passes, with what was told of it
pub passes : (P Q : Run) (turn : Cpu → Turn) (told : List ℕ) → Q.machine.config ≡ P.machine.config
    → Q.machine.image ≡ P.machine.image → Q.count ≡ P.count + 1
    → string_bytes Q.told ≡ string_bytes P.told ++ told
    → Passes P.machine.config P.machine.image P.machine.state (turn P.machine.state.cpu) Q.count Q.machine.state told
    → LeadsTo P Q (turn ∷ [])
passes P Q turn told config image count added passed = record {
  config = config;
  image = image;
  count = count;
  told = told;
  added = added;
  tells = λ rest more clean later.
      inl (
        Q.machine.state,
        told,
        more,
        subst (λ (n : ℕ).
            Passes P.machine.config P.machine.image P.machine.state (turn P.machine.state.cpu) n Q.machine.state told)
            (sym (next_count P Q count)) passed,
        refl,
        subst (λ (n : ℕ). Tells P.machine.config P.machine.image n Q.machine.state rest more clean)
            (sym (next_count P Q count)) later,
      );
}

pub ends : (P Q : Run) (turn : Cpu → Turn) (told : List ℕ) (clean : Bool) → Q.count ≡ P.count + 1
    → string_bytes Q.told ≡ string_bytes P.told ++ told
    → EndsRun P.machine.config P.machine.image P.machine.state (turn P.machine.state.cpu) Q.count told clean
    → EndsIn P Q (turn ∷ []) clean
ends P Q turn told clean count added ended = record {
  told = told;
  added = added;
  tells = λ rest.
      inr (
        told,
        subst (λ (n : ℕ).
            EndsRun P.machine.config P.machine.image P.machine.state (turn P.machine.state.cpu) n told clean)
            (sym (next_count P Q count)) ended,
        ap (λ n. told ++ turns_line n) (sym (next_count P Q count)),
      );
}

-- the same, where the line was told after the step
pub told_passes : (P Q : Run) (machine : MachineValue) (count : ℕ) (turn : Cpu → Turn) (told line : List ℕ)
    → Q.machine ≡ machine → Q.count ≡ count → count ≡ P.count + 1 → string_bytes Q.told ≡ string_bytes P.told ++ line
    → line ≡ told → machine.config ≡ P.machine.config → machine.image ≡ P.machine.image
    → Passes P.machine.config P.machine.image P.machine.state (turn P.machine.state.cpu) count machine.state told
    → LeadsTo P Q (turn ∷ [])
told_passes P Q machine count turn told line same counted one added is config image passed =
    passes P Q turn told (ap (λ m. m.config) same ∙ config) (ap (λ m. m.image) same ∙ image) (counted ∙ one)
    (added ∙ ap (λ text. string_bytes P.told ++ text) is)
    (subst (λ (m : MachineValue).
    Passes P.machine.config P.machine.image P.machine.state (turn P.machine.state.cpu) Q.count m.state told)
    (sym same)
    (subst (λ (n : ℕ).
    Passes P.machine.config P.machine.image P.machine.state (turn P.machine.state.cpu) n machine.state told)
    (sym counted) passed))

pub told_ends : (P Q : Run) (count : ℕ) (turn : Cpu → Turn) (told line : List ℕ) (clean : Bool) → Q.count ≡ count
    → count ≡ P.count + 1 → string_bytes Q.told ≡ string_bytes P.told ++ line → line ≡ told
    → EndsRun P.machine.config P.machine.image P.machine.state (turn P.machine.state.cpu) count told clean
    → EndsIn P Q (turn ∷ []) clean
told_ends P Q count turn told line clean counted one added is ended =
    ends P Q turn told clean (counted ∙ one) (added ∙ ap (λ text. string_bytes P.told ++ text) is)
    (subst (λ (n : ℕ).
    EndsRun P.machine.config P.machine.image P.machine.state (turn P.machine.state.cpu) n told clean)
    (sym counted) ended)

-- ---- the turn of a line

-- a turn is what it is on the processor before it
same_turn : (P Q : Run) (turn : Cpu → Turn) (end : Progress)
    → Advances P Q ((λ _. turn P.machine.state.cpu) ∷ []) end → Advances P Q (turn ∷ []) end
same_turn P Q turn GoesOn it = record {
  config = it.config;
  image = it.image;
  count = it.count;
  told = it.told;
  added = it.added;
  tells = it.tells;
}
same_turn P Q turn (Over clean) it = record { told = it.told; added = it.added; tells = it.tells }

some_turn : (t u : Turn) → Some t ≡ Some u → t ≡ u
some_turn t u is = ap (λ o. unwrap_or o t) is

-- the line's turn, where it is one
pub line_turn : (P Q : Run) (of_line : Option (Cpu → Turn)) (turn : Turn) (end : Progress)
    → Some turn ≡ option_map (λ f. f P.machine.state.cpu) of_line → Advances P Q ((λ _. turn) ∷ []) end
    → Advances P Q (one of_line) end
line_turn P Q None turn end is it = absurd (false≢true (subst (λ (o : Option Turn). IsSome o) is refl))
line_turn P Q (Some f) turn end is it =
    same_turn P Q f end
    (subst (λ (t : Turn). Advances P Q ((λ _. t) ∷ []) end) (some_turn turn (f P.machine.state.cpu) is) it)

pub ok_map : {A E : Type 0} (r : Result A E) (P Q : A → Type 0) → ((a : A) → P a → Q a) → IfOk r P → IfOk r Q
ok_map (Ok a) P Q each it = each a it
ok_map (Err e) P Q each it = it

-- ---- a whole run

whole : (P Q : Run) (turns : List (Cpu → Turn)) (text told : List ℕ) (clean : Bool) → string_bytes P.told ≡ []
    → string_bytes Q.told ≡ string_bytes P.told ++ told → text ≡ string_bytes Q.told ++ turns_line Q.count
    → Tells P.machine.config P.machine.image P.count P.machine.state (turns ++ []) (told ++ turns_line Q.count) clean
    → Tells P.machine.config P.machine.image P.count P.machine.state turns text clean
whole P Q turns text told clean none added is tells =
    let now : string_bytes Q.told ≡ told = added ∙ ap (λ t. t ++ told) none in
    subst (λ (all : List (Cpu → Turn)).
    Tells P.machine.config P.machine.image P.count P.machine.state all text clean)
    (append-nil turns)
    (subst (λ (t : List ℕ). Tells P.machine.config P.machine.image P.count P.machine.state (turns ++ []) t clean)
    (sym (is ∙ ap (λ t. t ++ turns_line Q.count) now)) tells)

told_whole : (P Q : Run) (turns : List (Cpu → Turn)) (text : List ℕ) (end : Progress) → string_bytes P.told ≡ []
    → Advances P Q turns end → text ≡ string_bytes Q.told ++ turns_line Q.count
    → Tells P.machine.config P.machine.image P.count P.machine.state turns text (is_clean end)
told_whole P Q turns text GoesOn none it is =
    whole P Q turns text it.told true none it.added is (it.tells [] (turns_line Q.count) true (refl, refl))
told_whole P Q turns text (Over clean) none it is =
    whole P Q turns text it.told clean none it.added is (it.tells [])

-- what is told of the run of the lines
pub replayed : (cfg : Description) (image : Contents) (lines : List Line) (P Q : Run) (text : List ℕ) (clean : Bool)
    (end : Progress) → IsFresh cfg image (first_set cfg lines) P → Advances P Q (turns_of P.machine.config lines) end
    → text ≡ string_bytes Q.told ++ turns_line Q.count → clean ≡ is_clean end → IsReplayed cfg image lines text clean
replayed cfg image lines P Q text clean end fresh it is ended = (
  P.machine.state,
  fresh.begins,
  subst (λ (b : Bool). Tells cfg image 0 P.machine.state (turns_of cfg lines) text b) (sym ended)
      (subst (λ (n : ℕ). Tells cfg image n P.machine.state (turns_of cfg lines) text (is_clean end)) fresh.count
      (subst (λ (d : Description). Tells d image P.count P.machine.state (turns_of d lines) text (is_clean end))
      fresh.config
      (subst (λ (m : Contents).
      Tells P.machine.config m P.count P.machine.state (turns_of P.machine.config lines) text (is_clean end))
      fresh.contents (told_whole P Q (turns_of P.machine.config lines) text end fresh.told it is)))),
)

pub ok_both : {A E : Type 0} (r : Result A E) (P Q R : A → Type 0) → ((a : A) → P a → Q a → R a) → IfOk r P → IfOk r Q
    → IfOk r R
ok_both (Ok a) P Q R each one other = each a one other
ok_both (Err e) P Q R each one other = one
