-- Generated listings have images. A listing in two parts is one where its second part is one from the end of its first.
-- What stands before the instructions is a closed term. Of the instructions, by induction on their number: each is
-- encodable, and its spelling is at most fifteen bytes long; so they end at most fifteen bytes for each after
-- their beginning, from where the jump back is in reach. omega is left the ranges.
use Rattle.std.proofs.Common.{◌≡◌, ◌∙◌, sym, ap, refl, subst, ℕ, zero, suc, lit≤, None, ◌+◌, ◌-◌, ◌*◌, ◌%◌, ◌^◌, ◌<◌, ◌≤◌, Bool, true, false, ltb, leb, List, [], ◌∷◌, ◌++◌, length, ℤ, pos, negsuc, arith}
use Rattle.std.specs.Prelude.{IsTrue, ◌&&◌, ◌==◌, ◌/◌, if◌then◌else◌}
use Rattle.std.specs.Int.{w64, cast_signed}
use Rattle.std.proofs.lemmas.Bool.{and_from, lt-ltb, le-leb}
use mir.Facts.{to_z-neg}
use Rattle.kc_words.specs.declared.width.Width.TheVariants.{Quad}
use Rattle.kc_insn.specs.declared.insn.Base.TheVariants as base
use Rattle.kc_insn.specs.declared.insn.Place.{Place}
use Rattle.kc_insn.specs.declared.insn.Place.TheVariants as place
use Rattle.kc_insn.specs.declared.insn.Source.TheVariants as source
use Rattle.kc_insn.specs.declared.insn.AluOp.TheVariants as alu
use Rattle.kc_insn.specs.declared.insn.Insn.{Insn}
use Rattle.kc_insn.specs.declared.insn.Insn.TheVariants.{Nop, Mov, Alu, Lea, Jmp}
use Rattle.kc_insn.specs.Encodable.{is_encodable, is_signed_long}
use Rattle.kc_encode.specs.Canonical.{is_signed_byte, four_bytes, eight_bytes, rex, rex_bytes, mode, disp_bytes, sib, needs_sib, memory, operand as operand_bytes, opcode_register, with_register, with_digit, on_register, one_byte, mov_immediate, arithmetic, signed_at, canonical_bytes, reaches, distance}
use Rattle.kc_gen.specs.declared.line.Line.{Line}
use Rattle.kc_gen.specs.declared.line.Line.TheVariants.{At, Code}
use Rattle.kc_gen.specs.Image.{reached, can_stand, within, is_listing}
use Rattle.kc_gen.specs.Samples.{load_address, rax, rdx, from, syscall_frame, syscall_handler, s1_events}
use Rattle.kc_gen.specs.Generated.{number_at, operand, chosen, chosen_lines, generated_lines}
use Rattle.kc_gen.proofs.ListingLemmas.{first_of}

-- ---- a listing in two parts

-- the address that a listing reaches
abbrev ends : ℕ → List Line → ℕ
ends at [] = at
ends at (line ∷ rest) = ends (reached at line) rest

ends-append : (at : ℕ) (xs ys : List Line) → ends at (xs ++ ys) ≡ ends (ends at xs) ys
ends-append at [] ys = refl
ends-append at (x ∷ xs) ys = ends-append (reached at x) xs ys

all_three : (a b c : Bool) → IsTrue a → IsTrue b → IsTrue c → IsTrue (a && (b && c))
all_three a b c f g h = and_from a (b && c) f (and_from b c g h)

listing-append : (load at : ℕ) (xs ys : List Line) → IsTrue (is_listing load at xs)
    → IsTrue (is_listing load (ends at xs) ys) → IsTrue (is_listing load at (xs ++ ys))
listing-append load at [] ys h k = k
listing-append load at (x ∷ xs) ys h k =
    let first = first_of load at x xs h in
    all_three (can_stand at x) (within load (reached at x)) (is_listing load (reached at x) (xs ++ ys)) first.stands
    first.fits (listing-append load (reached at x) xs ys first.others k)

-- ---- one instruction

record Stands (i : Insn) (at : ℕ) : Type 0 where
  encodable : is_encodable i ≡ true
  near : reaches i at ≡ true
  short : length (canonical_bytes i at) ≤ 15

is_within : (at : ℕ) → at < 0xffffffff82000000 → IsTrue (within load_address at)
is_within at h =
    and_from (ltb at (load_address + 2 ^ 26)) (ltb at (2 ^ 64)) (lt-ltb at (load_address + 2 ^ 26) (omega (arith, h)))
    (lt-ltb at (2 ^ 64) (omega (arith, h)))

one_line : (i : Insn) (at : ℕ) → Stands i at → at + 15 < 0xffffffff82000000
    → IsTrue (is_listing load_address at (Code i ∷ []))
one_line i at s h =
    all_three (can_stand at (Code i)) (within load_address (at + length (canonical_bytes i at))) true
    (and_from (is_encodable i) (reaches i at) s.encodable s.near)
    (is_within (at + length (canonical_bytes i at)) (omega (arith, s.short, h))) refl

-- ---- the chosen instructions

abbrev choice : Bool → Bool → Bool → ℕ → Insn
choice nop mov add v =
    if nop then Nop else
    if mov then Mov Quad (place.Reg rax) (source.Imm (pos v)) else
    if add then Alu alu.Add Quad (place.Reg rax) (source.Imm (pos v)) else
    Lea Quad rdx (from rax v)

either : (n : ℕ) (b : Bool) (xs ys : List ℕ) → length xs ≤ n → length ys ≤ n → length (if b then xs else ys) ≤ n
either n true xs ys h k = h
either n false xs ys h k = k

abbrev at_rax : ℤ → Place
at_rax z = place.Mem (record { gs = false; base = base.Reg rax; index = None; disp = z })

move_long : (z : ℤ) → length (mov_immediate Quad rax z) ≤ 15
unfolding with_digit rex rex_bytes operand_bytes opcode_register four_bytes eight_bytes
move_long z =
    either 15 (is_signed_long z) (with_digit Quad (0xC7 ∷ []) 0 (place.Reg rax) ++ four_bytes z)
    (opcode_register true 0xB8 rax ++ eight_bytes z) (lit≤ tt) (lit≤ tt)

add_long : (z : ℤ) → length (arithmetic alu.Add Quad (place.Reg rax) (source.Imm z)) ≤ 15
unfolding with_digit rex rex_bytes operand_bytes four_bytes
add_long z =
    either 15 (is_signed_byte (signed_at Quad z)) (with_digit Quad (0x83 ∷ []) 0 (place.Reg rax) ++ one_byte (signed_at Quad z))
    (with_digit Quad (0x81 ∷ []) 0 (place.Reg rax) ++ four_bytes z) (lit≤ tt) (lit≤ tt)

disp_long : (m : ℕ) (z : ℤ) → length (disp_bytes m z) ≤ 4
unfolding disp_bytes four_bytes
disp_long m z =
    either 4 (m == 0) [] (if m == 1 then one_byte z else four_bytes z) (lit≤ tt)
    (either 4 (m == 1) (one_byte z) (four_bytes z) (lit≤ tt) (lit≤ tt))

address_long : (z : ℤ) → length (with_register Quad 0x8D rdx (at_rax z)) ≤ 15
unfolding with_register rex rex_bytes operand_bytes memory needs_sib
address_long z =
    let is : length (with_register Quad 0x8D rdx (at_rax z)) ≡ suc (suc (suc (length (disp_bytes (mode rax z) z)))) = refl in
    omega (arith, is, disp_long (mode rax z) z)

signed_long : (v : ℕ) → v < 2 ^ 30 → is_signed_long (pos v) ≡ true
signed_long v h = lt-ltb v 2147483648 (omega (arith, h))

choice_stands : (nop mov add : Bool) (v at : ℕ) → v < 2 ^ 30 → Stands (choice nop mov add v) at
unfolding canonical_bytes
choice_stands true mov add v at h = record { encodable = refl; near = refl; short = lit≤ tt }
choice_stands false true add v at h = record { encodable = refl; near = refl; short = move_long (pos v) }
choice_stands false false true v at h = record { encodable = signed_long v h; near = refl; short = add_long (pos v) }
choice_stands false false false v at h = record { encodable = refl; near = refl; short = address_long (pos v) }

chosen_stands : (x at : ℕ) → Stands (chosen x) at
chosen_stands x at =
    choice_stands (x / 2 ^ 62 == 0) (x / 2 ^ 62 == 1) (x / 2 ^ 62 == 2) (operand x) at (omega arith)

abbrev first_address : ℕ
first_address = 0xffffffff81100000

record Follows (seed n : ℕ) : Type 0 where
  listing : IsTrue (is_listing load_address first_address (chosen_lines seed n))
  above : first_address ≤ ends first_address (chosen_lines seed n)
  below : ends first_address (chosen_lines seed n) ≤ first_address + 15 * n

chosen_follow : (seed n : ℕ) → n ≤ 6000 → Follows seed n
chosen_follow seed zero h = record { listing = refl; above = omega arith; below = omega arith }
chosen_follow seed (suc n) h =
    let before : Follows seed n = chosen_follow seed n (omega (arith, h)) in
    let i : Insn = chosen (number_at seed (suc n)) in
    let at : ℕ = ends first_address (chosen_lines seed n) in
    let s : Stands i at = chosen_stands (number_at seed (suc n)) at in
    let end : ends first_address (chosen_lines seed (suc n)) ≡ at + length (canonical_bytes i at) =
    ends-append first_address (chosen_lines seed n) (Code i ∷ []) in
    record {
      listing = listing-append load_address first_address (chosen_lines seed n) (Code i ∷ []) before.listing
          (one_line i at s (omega (arith, before.below, h)));
      above = omega (arith, end, before.above);
      below = omega (arith, end, before.below, s.short);
    }

-- ---- the jump back

jump_long : (at : ℕ) → length (canonical_bytes (Jmp 0xffffffff81000036) at) ≤ 15
unfolding canonical_bytes four_bytes
jump_long at = lit≤ tt

back_stands : (at : ℕ) → first_address ≤ at → at ≤ first_address + 90000 → Stands (Jmp 0xffffffff81000036) at
back_stands at above below =
    let k : ℕ = at + 5 - 0xffffffff81000037 in
    let bits : (0xffffffff81000036 + (2 ^ 64 - (at + 5) % 2 ^ 64)) % 2 ^ 64 ≡ 2 ^ 64 - suc k =
    omega (arith, above, below) in
    let far : distance (at + 5) 0xffffffff81000036 ≡ negsuc k =
    ap (λ (n : ℕ). cast_signed w64 n) bits ∙ to_z-neg w64 k (omega (arith, above, below)) in
    let small : leb k 2147483647 ≡ true = le-leb k 2147483647 (omega (arith, above, below)) in
    record {
      encodable = refl;
      near = ap (λ (z : ℤ). is_signed_long z) far ∙ and_from (leb k 2147483647) true small refl;
      short = jump_long at;
    }

-- ---- the whole

abbrev before_them : List Line
before_them = syscall_frame ++ Code (Jmp 0xffffffff81100000) ∷ syscall_handler ++ s1_events ++ At 0xffffffff81100000 ∷ []

before_is_listing : IsTrue (is_listing load_address load_address before_them)
unfolding is_signed_byte four_bytes eight_bytes rex rex_bytes mode disp_bytes sib needs_sib memory operand_bytes
    opcode_register with_register with_digit on_register signed_at canonical_bytes
before_is_listing = refl

before_ends : ends load_address before_them ≡ first_address
before_ends = refl

pub generated_is_listing : (seed size : ℕ) → size ≤ 6000
    → IsTrue (is_listing load_address load_address (generated_lines seed size))
generated_is_listing seed size h =
    let f : Follows seed size = chosen_follow seed size h in
    let at : ℕ = ends first_address (chosen_lines seed size) in
    let back : List Line = Code (Jmp 0xffffffff81000036) ∷ [] in
    let left : IsTrue (is_listing load_address first_address (chosen_lines seed size ++ back)) =
    listing-append load_address first_address (chosen_lines seed size) back f.listing
    (one_line (Jmp 0xffffffff81000036) at (back_stands at f.above (omega (arith, f.below, h)))
    (omega (arith, f.below, h))) in
    listing-append load_address load_address before_them (chosen_lines seed size ++ back) before_is_listing
    (subst (λ a. IsTrue (is_listing load_address a (chosen_lines seed size ++ back))) (sym before_ends) left)
