-- Reading keys and summaries of contexts, this project's own. Where a rule of keys joins two fields, the later is at
-- fault.
use Rattle.std.specs.Prelude.{ℕ, ◌^◌, Bool, true, false, ◌==◌, ◌&&◌, ◌||◌, not, nat_lt, if◌then◌else◌, Option, Some, None, Ok}
use Rattle.kc_rules.specs.Rules.{◌>>=◌}
use Rattle.kc_state.specs.declared.key.Key.{Key}
use Rattle.kc_state.specs.declared.summary.Summary.{Summary}
use Rattle.kc_certfields.specs.Rest.{Rest}
use Rattle.kc_certfields.specs.Reads.{Reading, in_range, one_of}
use Rattle.kc_certfields.specs.Numbers.{u8_at, u32_at, u64_at}
use Rattle.kc_certfields.specs.Spaces.{gs_at, map_at, latches_at}

-- a byte 0 or 1
unfoldable pub bit_at : Reading Bool
bit_at i = do
  n ← u8_at i
  _ ← in_range (nat_lt n.0 2) i.at
  Ok (n.0 == 1, n.1)

-- a vector; SYSCALL has 0
unfoldable pub vector_at : Bool → Reading ℕ
vector_at event i = do
  n ← u8_at i
  _ ← in_range (event || n.0 == 0) i.at
  Ok (n.0, n.1)

-- a bit that is 1 only where this may be
unfoldable pub bit_where : Bool → Reading Bool
bit_where may i = do
  b ← bit_at i
  _ ← in_range (may || not b.0) i.at
  Ok (b.0, b.1)

-- the stack of the interrupted RSP, 255 for none; that of the user has none
unfoldable pub stack_at : ℕ → Bool → Reading (Option ℕ)
stack_at stacks kernel i = do
  n ← u8_at i
  _ ← in_range (n.0 == 255 || (kernel && nat_lt n.0 stacks)) i.at
  Ok ((if n.0 == 255 then None else Some n.0), n.1)

-- a base, or 0 where there is none
unfoldable pub base_at : Bool → Reading (Option ℕ)
base_at based i = do
  n ← u64_at i
  _ ← in_range (based || n.0 == 0) i.at
  Ok ((if based then Some n.0 else None), n.1)

unfoldable pub key_at : ℕ → Reading Key
key_at stacks i = do
  event ← bit_at i
  vector ← vector_at event.0 event.1
  kernel ← bit_where event.0 vector.1
  gs ← gs_at kernel.1
  map ← map_at gs.1
  stack ← stack_at stacks kernel.0 map.1
  based ← bit_where event.0 stack.1
  base ← base_at based.0 based.1
  Ok (
    record {
      syscall = not event.0;
      vector = vector.0;
      kernel = kernel.0;
      gs = gs.0;
      map = map.0;
      stack = stack.0;
      base = base.0;
    },
    base.1,
  )

unfoldable pub summary_at : Reading Summary
summary_at i = do
  stacks ← u32_at i
  _ ← in_range (nat_lt stacks.0 (2 ^ 16)) i.at
  words ← u64_at stacks.1
  _ ← in_range (nat_lt words.0 (2 ^ 40)) stacks.1.at
  latches ← latches_at words.1
  Ok (record { clobber = record { stacks = stacks.0; words = words.0 }; latches = latches.0 }, latches.1)
