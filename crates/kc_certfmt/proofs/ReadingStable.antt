-- The readings of a certificate's head, contexts and nodes are stable: from those of their fields, in their order.
use Rattle.std.proofs.Common.{◌≡◌, ℕ, Bool, true, false, not, List, [], ◌∷◌, ◌++◌, Option, Some, None, Result, Ok, Err}
use Rattle.std.specs.Prelude.{nat_lt, if◌then◌else◌, ◌==◌, ◌||◌, ◌-◌, slice_get, is_some, length}
use Rattle.kc_rules.specs.Rules.{◌>>=◌, refuse}
use Rattle.kc_state.specs.declared.key.Key.{Key}
use Rattle.kc_state.specs.declared.summary.Summary.{Summary}
use Rattle.kc_state.specs.declared.state.AbsState.{AbsState}
use Rattle.kc_state.specs.declared.user.UserState.{UserState}
use Rattle.kc_cert.specs.Table.{Position}
use Rattle.kc_cert.specs.declared.certificate.Context.{Context}
use Rattle.kc_cert.specs.declared.certificate.Node.{Node}
use Rattle.kc_certfields.specs.declared.fault.CertFault.{CertFault}
use Rattle.kc_certfields.specs.Fault.{fault}
use Rattle.kc_certfields.specs.declared.fault.CertKind.TheVariants.{BadMagic, Version, Order, TooMany, Range}
use Rattle.kc_certfields.specs.Reads.{Reading, in_range, one_of, times}
use Rattle.kc_certfields.specs.Numbers.{bytes_at, u8_at, u32_at, u64_at}
use Rattle.kc_certfields.specs.States.{state_at, user_at}
use Rattle.kc_certfields.specs.Keys.{bit_at, key_at, summary_at}
use Rattle.kc_certfields.specs.Stable.{Stable}
use Rattle.kc_certfields.proofs.StableLemmas.{stable-then, stable-test, stable-pure, stable-fault, stable-if, stable-map}
use Rattle.kc_certfields.proofs.FieldsStable.{in-range, stable-bytes, stable-u8, stable-u32, stable-u64}
use Rattle.kc_certfields.proofs.StatesStable.{stable-state, stable-user, stable-key, stable-summary}
use Rattle.kc_certform.specs.CertBytes.{magic, share_of}
use Rattle.kc_certfmt.specs.Reading.{last_of, magic_at, version_at, stacks_at, count_at, head_at, key_rises, context_at, next_context, Nodes, position_rises, position_at, StateRead, plain_state_at, new_state_at, shared_state, state_after, shared_state_at, node_state_at, with_node, node_with, next_node}
use Rattle.kc_certfmt.specs.declared.head.Head.{Head}

-- a reading, and a test of what it read that doesn't look at the bytes
tested : {A : Type 0} (read : Reading A) (test : ℕ → A → Result (Unit {0}) CertFault) → Stable read
    → Stable (λ i. read i >>= λ x. test i.at x.0 >>= λ y. Ok x)
tested read test first =
    stable-then read (λ at x j. test at x >>= λ y. Ok (x, j)) first
    (λ at x. stable-test (test at x) (λ y j. Ok (x, j)) (λ y. stable-pure x))

-- ---- what stands before the contexts

pub stable-magic : (ms : List ℕ) → Stable (magic_at ms)
unfolding magic_at
stable-magic [] = stable-pure tt
stable-magic (m ∷ ms) =
    stable-then u8_at (λ at b j. refuse (not (b == m)) (fault BadMagic at) >>= λ x. magic_at ms j) stable-u8
    (λ at b. stable-test (refuse (not (b == m)) (fault BadMagic at)) (λ x. magic_at ms) (λ x. stable-magic ms))

stable-version : Stable version_at
unfolding version_at
stable-version = tested u32_at (λ at n. refuse (not (n == 1 || n == 2)) (fault Version at)) stable-u32

stable-stacks : Stable stacks_at
unfolding stacks_at
stable-stacks = tested u8_at (λ at n. refuse (nat_lt 16 n) (fault TooMany at)) stable-u8

pub stable-count : (limit : ℕ) → Stable (count_at limit)
unfolding count_at
stable-count limit = tested u32_at (λ at n. refuse (nat_lt limit n) (fault TooMany at)) stable-u32

abbrev after-stacks : ℕ → List ℕ → List ℕ → ℕ → Reading Head
after-stacks version image config stacks i = user_at i >>= λ user. Ok (
  record {
    version = version;
    digests = record { image = image; config = config };
    stacks = stacks;
    user = user.0;
  },
  user.1,
)

abbrev after-config : ℕ → List ℕ → List ℕ → Reading Head
after-config version image config i = stacks_at i >>= λ stacks. after-stacks version image config stacks.0 stacks.1

abbrev after-image : ℕ → List ℕ → Reading Head
after-image version image i = bytes_at 32 i >>= λ config. after-config version image config.0 config.1

abbrev after-version : ℕ → Reading Head
after-version version i = bytes_at 32 i >>= λ image. after-image version image.0 image.1

abbrev after-magic : Reading Head
after-magic i = version_at i >>= λ version. after-version version.0 version.1

pub stable-head : Stable head_at
unfolding head_at
stable-head =
    stable-then (magic_at magic) (λ a x. after-magic) (stable-magic magic)
    (λ a x. stable-then version_at (λ b version. after-version version) stable-version
    (λ b version. stable-then (bytes_at 32) (λ c image. after-image version image) (stable-bytes 32)
    (λ c image. stable-then (bytes_at 32) (λ d config. after-config version image config) (stable-bytes 32)
    (λ d config. stable-then stacks_at (λ e stacks. after-stacks version image config stacks) stable-stacks
    (λ e stacks.
    let whole : UserState → Head = λ user. record {
      version = version;
      digests = record { image = image; config = config };
      stacks = stacks;
      user = user;
    } in
    stable-map user_at whole stable-user)))))

-- ---- contexts

abbrev after-key : Key → Reading Context
after-key key i = summary_at i >>= λ summary. Ok (record { key = key; summary = summary.0 }, summary.1)

stable-context : (stacks : ℕ) (before : List Context) → Stable (context_at stacks before)
unfolding context_at
stable-context stacks before =
    stable-then (key_at stacks)
    (λ at key i. refuse (not (key_rises (last_of before) key)) (fault Order at) >>= λ x. after-key key i)
    (stable-key stacks)
    (λ at key. stable-test (refuse (not (key_rises (last_of before) key)) (fault Order at)) (λ x. after-key key)
    (λ x. let whole : Summary → Context = λ summary. record { key = key; summary = summary } in
    stable-map summary_at whole stable-summary))

pub stable-contexts : (stacks : ℕ) (before : List Context) → Stable (next_context stacks before)
stable-contexts stacks before =
    stable-map (context_at stacks before) (λ (c : Context). before ++ c ∷ []) (stable-context stacks before)

-- ---- nodes

stable-bit : Stable bit_at
unfolding bit_at
stable-bit = in-range u8_at (λ (n : ℕ). nat_lt n 2) (λ (n : ℕ). n == 1) stable-u8

abbrev after-inside : List Node → ℕ → ℕ → ℕ → Bool → Reading Position
after-inside before at context address inside i =
    refuse (not (position_rises (last_of before) (context, record { at = address; inside = inside }))) (fault Order at)
    >>= λ x. Ok ((context, record { at = address; inside = inside }), i)

abbrev after-address : List Node → ℕ → ℕ → ℕ → Reading Position
after-address before at context address i =
    bit_at i >>= λ inside. after-inside before at context address inside.0 inside.1

abbrev after-context : List Node → ℕ → ℕ → Reading Position
after-context before at context i = u64_at i >>= λ address. after-address before at context address.0 address.1

stable-inside : (before : List Node) (at context address : ℕ) (inside : Bool)
    → Stable (after-inside before at context address inside)
stable-inside before at context address inside =
    let p : Position = (context, record { at = address; inside = inside }) in
    stable-test (refuse (not (position_rises (last_of before) p)) (fault Order at)) (λ x i. Ok (p, i))
    (λ x. stable-pure p)

pub stable-position : (contexts : ℕ) (before : List Node) → Stable (position_at contexts before)
unfolding position_at
stable-position contexts before =
    stable-then u32_at
    (λ at context i. in_range (nat_lt context contexts) at >>= λ x. after-context before at context i) stable-u32
    (λ at context. stable-test (in_range (nat_lt context contexts) at) (λ x. after-context before at context)
    (λ x. stable-then u64_at (λ a address. after-address before at context address) stable-u64
    (λ a address. stable-then bit_at (λ b inside. after-inside before at context address inside) stable-bit
    (λ b inside. stable-inside before at context address inside))))

stable-plain : (stacks : ℕ) → Stable (plain_state_at stacks)
unfolding plain_state_at
stable-plain stacks = stable-map (state_at stacks) (λ (s : AbsState). (s, false)) (stable-state stacks)

stable-new : (stacks : ℕ) (written : List AbsState) → Stable (new_state_at stacks written)
unfolding new_state_at
stable-new stacks written =
    stable-then (state_at stacks)
    (λ at s i. refuse (is_some (share_of written s)) (fault Order at) >>= λ x. Ok ((s, true), i)) (stable-state stacks)
    (λ at s. stable-test (refuse (is_some (share_of written s)) (fault Order at)) (λ x i. Ok ((s, true), i))
    (λ x. stable-pure (s, true)))

stable-shared : (stacks : ℕ) (written : List AbsState) → Stable (shared_state_at stacks written)
unfolding shared_state_at
stable-shared stacks written =
    stable-then u32_at (λ at share. state_after stacks written at share) stable-u32
    (λ at share. stable-if (share == 0) (new_state_at stacks written) (shared_state written at share)
    (stable-new stacks written)
    (stable-test (one_of (slice_get written (share - 1)) at) (λ s i. Ok ((s, false), i)) (λ s. stable-pure (s, false))))

pub stable-node-state : (head : Head) (written : List AbsState) → Stable (node_state_at head written)
stable-node-state head written =
    stable-if (head.version == 1) (plain_state_at head.stacks) (shared_state_at head.stacks written)
    (stable-plain head.stacks) (stable-shared head.stacks written)

pub stable-nodes : (head : Head) (contexts : ℕ) (before : Nodes) → Stable (next_node head contexts before)
stable-nodes head contexts before =
    stable-then (position_at contexts before.nodes)
    (λ at p. node_with before p (node_state_at head before.written)) (stable-position contexts before.nodes)
    (λ at p. stable-map (node_state_at head before.written) (λ (s : StateRead). with_node before p s)
    (stable-node-state head before.written))
