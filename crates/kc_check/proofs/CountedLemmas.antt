-- What holds of a node's instruction is asked where there is one: by cases on what the bytes spell.
use Rattle.std.proofs.Common.{◌≡◌, ℕ, Bool, true, not, ◌||◌, Option, Some, None, refl, sym, ap, ◌∙◌}
use Rattle.std.specs.Prelude.{option_map}
use Rattle.kc_insn.specs.declared.insn.Insn.{Insn}
use Rattle.kc_rules.proofs.AnswerLemmas.{some_is}
use Rattle.kc_cert.specs.Certified.{placed}
use Rattle.kc_cert.specs.Conditions.{is_user_covered}
use Rattle.kc_cert.specs.FirstRefusal.{of_insn}
use Rattle.kc_cert.specs.Placed.{Placed, is_return, user_after}
use Rattle.kc_cert.specs.declared.certificate.Certificate.{Certificate}
use Rattle.kc_cert.specs.declared.certificate.Context.{Context}
use Rattle.kc_cert.specs.declared.certificate.Node.{Node}
use Rattle.kc_state.specs.User.{user_below}

pub asked-some : (test : Placed → Bool) (c : Context) (n : Node) (x : Option (Insn × ℕ)) (p : Placed)
    → Some p ≡ option_map (placed c n) x → test p ≡ of_insn test c n x
asked-some test c n (Some x) p e = ap test (some_is p (placed c n x) e)
asked-some test c n None p e = absurd cc

pub asked-none : (test : Placed → Bool) (c : Context) (n : Node) (x : Option (Insn × ℕ))
    → None ≡ option_map (placed c n) x → true ≡ of_insn test c n x
asked-none test c n (Some x) e = absurd cc
asked-none test c n None e = refl

same_key : (c : Context) (n : Node) (x : Insn × ℕ) → (placed c n x).key.kernel ≡ c.key.kernel
same_key c n (insn, len) = refl

-- a context that interrupts the kernel doesn't return to the user
pub kernel_covered : (cert : Certificate) (c : Context) (n : Node) (x : Option (Insn × ℕ)) → c.key.kernel ≡ true
    → true ≡ of_insn (is_user_covered cert) c n x
kernel_covered cert c n (Some x) e =
    let p : Placed = placed c n x in
    sym (ap (λ (b : Bool). b || (not (is_return p) || user_below (user_after p) cert.user)) (same_key c n x ∙ e))
kernel_covered cert c n None e = refl
