-- The whole in its parts: the start, the user state, and the contexts in their order. What was answered at each part
-- decides, by the laws of rules in a row; the user state's two rows are one part here.
use Rattle.std.proofs.Common.{◌≡◌, Bool, true, false, Result, Ok, Err, refl, sym, ap, ◌∙◌}
use Rattle.kc_image.specs.Image.{Contents}
use Rattle.kc_regions.specs.Description.{Description}
use Rattle.kc_rules.specs.Rules.{◌>>=◌}
use Rattle.kc_cert.specs.Conditions.{is_start_covered, is_user_event_covered}
use Rattle.kc_cert.specs.FirstRefusal.{at_table, at_user, context_refusal, demand, each, each_from, refusal_from_start}
use Rattle.kc_cert.specs.Placed.{user_vectors}
use Rattle.kc_cert.specs.declared.certificate.Certificate.{Certificate}
use Rattle.kc_cert.specs.declared.refusal.Event.TheVariants.{Syscall}
use Rattle.kc_cert.specs.declared.refusal.Refusal.{Refusal}
use Rattle.kc_check.proofs.EachLemmas.{bind-ok, bind-err}
use Rattle.kc_check.specs.User.{user_refusal, vector_refusal}
use Rattle.std.specs.Prelude.{None}

abbrev Answer : Type 0
Answer = Result (Unit {0}) Refusal

regroup : (a b c : Answer) → ((a >>= λ ok. b) >>= λ ok. c) ≡ (a >>= λ ok. (b >>= λ ok. c))
regroup (Ok u) b c = refl
regroup (Err d) b c = refl

pub demanded : {E : Type 0} (b : Bool) (r : E) → demand b r ≡ Ok tt → b ≡ true
demanded true r e = refl
demanded false r e = absurd cc

pub not-both : (answer : Answer) (e : Refusal) → answer ≡ Err e → answer ≡ Ok tt → ⊥
not-both (Ok u) e refused passed = absurd cc
not-both (Err d) e refused passed = absurd cc

module _ (image : Contents) (d : Description) (cert : Certificate) (start user contexts : Answer)
    (of_start : start ≡ demand (is_start_covered d cert) (at_table 3)) (of_user : user ≡ user_refusal d cert) where
  in-parts : refusal_from_start image d cert
      ≡ (start >>= λ ok. (user >>= λ ok. each_from (context_refusal image d cert) 0 cert.contexts))
  in-parts =
      let rest = each_from (context_refusal image d cert) 0 cert.contexts in
      let vectors = each (vector_refusal d cert) (user_vectors d cert.user) in
      let syscall = demand (is_user_event_covered d cert None) (at_user Syscall) in
      ap (λ (r : Answer). demand (is_start_covered d cert) (at_table 3) >>= λ ok. r) (sym (regroup vectors syscall rest))
      ∙ (λ i. sym of_start i >>= λ ok. (sym of_user i >>= λ ok. rest))

  pub user-refused : (e : Refusal) → start ≡ Ok tt → user ≡ Err e → Err e ≡ refusal_from_start image d cert
  user-refused e passed refused =
      let rest = each_from (context_refusal image d cert) 0 cert.contexts in
      sym (in-parts ∙ bind-ok start (user >>= λ ok. rest) passed ∙ bind-err user rest e refused)

  pub contexts-decide : start ≡ Ok tt → user ≡ Ok tt
      → contexts ≡ each_from (context_refusal image d cert) 0 cert.contexts
      → contexts ≡ refusal_from_start image d cert
  contexts-decide passed covered is =
      let rest = each_from (context_refusal image d cert) 0 cert.contexts in
      is ∙ sym (in-parts ∙ bind-ok start (user >>= λ ok. rest) passed ∙ bind-ok user rest covered)
