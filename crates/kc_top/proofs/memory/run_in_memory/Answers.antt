use Rattle.std.proofs.Common.{◌≡◌, ◌≢◌, ℕ, List, [], refl, sym, ap, subst, ◌∙◌}
use Rattle.std.specs.Prelude.{Option, Some, IsSome}
use Rattle.kc_io.specs.Count.{Rose}
use Rattle.kc_io.specs.Files.{Held}
use Rattle.kc_io.specs.Sink.{Plan}
use Rattle.kc_io.specs.Memory.{file_of, shared_count}
use Rattle.kc_top.specs.declared.status.Status.TheVariants.{WriteFault, NoMemory}
use Rattle.kc_top.specs.Words.{request_of}
use Rattle.kc_top.specs.Output.{work_of}
use Rattle.kc_top.proofs.WorkLemmas.{Comes-quiet}
use Rattle.kc_top.proofs.OutputLemmas.{unfailed, shared_count-held, Rose-none}
use Rattle.kc_top.proofs.OutputLemmas.{Refuses-room}
use Rattle.kc_top.proofs.memory.run_in_memory.Goals as goal

-- without planned failures no count of a held name rose
still : (c : goal.After-run) → c.args.files.now.failing.items ≡ [] → (n : List ℕ) →
    IsSome (file_of c.args.files.now.names.items c.args.files.now.bytes.items n) →
    Rose (shared_count (file_of c.args.files.now.names.items c.args.files.now.bytes.items n)
    c.args.files.now.held_faults c.args.files.now.other_faults)
    (shared_count (file_of c.run.new.files.names.items c.run.new.files.bytes.items n) c.run.new.files.held_faults
    c.run.new.files.other_faults) → ⊥
still c planned n held rose =
    let none : c.run.new.files.held_faults ≡ 0 = c.run.new.files.quiet (c.run.ensures.files_kept.failing ∙ planned) in
    let same : file_of c.run.new.files.names.items c.run.new.files.bytes.items ≡ file_of c.args.files.now.names.items
    c.args.files.now.bytes.items = let told = c.run.ensures.files_kept.held in cc in
    let held' : IsSome (file_of c.run.new.files.names.items c.run.new.files.bytes.items n) = subst
    (λ (o : Option (List ℕ)). IsSome o) (sym (ap (λ (f : Held). f n) same)) held in
    Rose-none _ _ (shared_count-held (file_of c.run.new.files.names.items c.run.new.files.bytes.items n)
    c.run.new.files.held_faults c.run.new.files.other_faults held' ∙ none) rose

pub returns-clause-read : goal.returns-clause-read
returns-clause-read c = λ planned holds is.
    let held = file_of c.args.files.now.names.items c.args.files.now.bytes.items in
    let rose = λ (n : List ℕ). Rose (shared_count (held n) c.args.files.now.held_faults c.args.files.now.other_faults)
    (shared_count (file_of c.run.new.files.names.items c.run.new.files.bytes.items n) c.run.new.files.held_faults
    c.run.new.files.other_faults) in
    let remembered : c.run.result ≢ NoMemory = λ no. cc in
    let written : c.run.result ≢ WriteFault = λ no. cc in
    let told = c.run.ensures.outcome remembered in
    let due = Comes-quiet held rose (still c planned) (work_of (request_of c.args.words.now)) holds told.0 told.1 in
    unfailed (Some held) (request_of c.args.words.now) told.0 due (sym (told.2.all written).0 ∙ is)

pub returns-clause-written : goal.returns-clause-written
returns-clause-written c = λ planned holds sinks room is.
    let held = file_of c.args.files.now.names.items c.args.files.now.bytes.items in
    let rose = λ (n : List ℕ). Rose (shared_count (held n) c.args.files.now.held_faults c.args.files.now.other_faults)
    (shared_count (file_of c.run.new.files.names.items c.run.new.files.bytes.items n) c.run.new.files.held_faults
    c.run.new.files.other_faults) in
    let remembered : c.run.result ≢ NoMemory = λ no. cc in
    let told = c.run.ensures.outcome remembered in
    let due = Comes-quiet held rose (still c planned) (work_of (request_of c.args.words.now)) holds told.0 told.1 in
    let refuses = told.2.part is in
    let failing : c.run.new.out.failing.items ≡ [] = ap (λ (p : Plan). p.failing) c.run.ensures.out_kept.plan ∙ sinks in
    let same_room : c.run.new.out.room ≡ c.args.out.now.room = let plan = ap (λ (p : Plan). p.room)
    c.run.ensures.out_kept.plan in cc in
    let full = c.run.new.out.full failing (λ none. Rose-none _ _ none refuses.rose) in
    Refuses-room c.args.out.now.bytes.items c.run.new.out.bytes.items told.0.text _ _ _ refl refl refuses
    (room told.0 due) (rw same_room at full)
