-- The tables of a description, each with its keys in the order in which they are read: this project's own.
-- In each table the first line that refuses gives the fault.
use Rattle.std.specs.Prelude.{codes, ℕ, ◌+◌, ◌%◌, ◌^◌, Bool, true, not, ◌&&◌, ◌||◌, ◌==◌, nat_eq, nat_le, nat_lt, List, [], length, Option, Some, None, ok_or, Result, Ok, if◌then◌else◌}
use Rattle.std.specs.List.{list_any, list_all}
use Rattle.std.specs.Str.{bytes_eq}
use Rattle.std.specs.Int.{bit_at}
use Rattle.kc_regions.specs.declared.region.Kind.{Kind}
use Rattle.kc_regions.specs.declared.region.Kind.TheVariants.{Text, Area, Plain, Stack, Guard, User}
use Rattle.kc_regions.specs.declared.region.Region.{Region}
use Rattle.kc_regions.specs.declared.entry.Gate.{Gate}
use Rattle.kc_regions.specs.declared.entry.Handler.{Handler}
use Rattle.kc_regions.specs.declared.entry.AfterIf.{AfterIf}
use Rattle.kc_regions.specs.declared.entry.AfterIf.TheVariants.{Keep, On, Off, Any}
use Rattle.kc_regions.specs.declared.entry.Word.{Word}
use Rattle.kc_regions.specs.declared.cpu.CpuSetup.{CpuSetup}
use Rattle.toml.specs.Data.{Members, as_str, as_table}
use Rattle.kc_rules.specs.Rules.{refuse, ◌>>=◌}
use Rattle.kc_config.specs.declared.fault.ConfigFault.{ConfigFault}
use Rattle.kc_config.specs.declared.fault.ConfigFault.TheVariants.{WrongKind, NoSymbol}
use Rattle.kc_config.specs.Paths.{path}
use Rattle.kc_words.specs.Range.{Range}
use Rattle.kc_config.specs.declared.region.Flags.{Flags}
use Rattle.kc_config.specs.declared.handler.Events.{Events}
use Rattle.kc_config.specs.Addresses.{meant, is_address}
use Rattle.kc_config.specs.Keys.{Section, or_default, in_range, boolean, flag, number_in, word, address, address_in, table, array_of, every, form_of, only_keys}

abbrev pub within : ℕ → ℕ → ℕ → Bool
within least most n = nat_le least n && nat_le n most

-- bit i of n is clear
abbrev pub clear : ℕ → ℕ → Bool
clear i n = bit_at n i == 0

abbrev pub multiple_of_8 : ℕ → Bool
multiple_of_8 n = n % 8 == 0

-- ---- the top

-- the tables that stand in a document
pub record Tables : Type 0 where
  pub cpu : Members
  pub regions : List Members
  pub gates : List Members
  pub handlers : List Members
  pub words : List Members

-- an array of tables, so many of them
unfoldable pub tables : (ℕ → Bool) → Section → List ℕ → Result (List Members) ConfigFault
tables count at key = do
  found ← array_of as_table at key
  ok ← in_range at key (count (length found))
  Ok found

unfoldable pub top : Section → Result Tables ConfigFault
top at = do
  version ← number_in (nat_eq 1) at (codes "version")
  cpu ← table at (codes "cpu")
  regions ← tables (within 1 64) at (codes "region")
  gates ← tables (within 1 256) at (codes "gate")
  handlers ← or_default at (codes "handler") [] (tables (within 0 256) at (codes "handler"))
  words ← or_default at (codes "word") [] (tables (within 0 32) at (codes "word"))
  ok ← only_keys at
  Ok (record { cpu = cpu; regions = regions; gates = gates; handlers = handlers; words = words })

-- ---- the processor

-- IST1 to IST7, read as one value: seven forms, then seven names, then seven sums
unfoldable pub ist_stacks : Section → Result (List ℕ) ConfigFault
ist_stacks at = do
  forms ← array_of form_of at (codes "ist")
  ok ← refuse (not (length forms == 7)) (WrongKind (path at.place (codes "ist")))
  sums ← ok_or (every (meant at.symbols) forms) (NoSymbol (path at.place (codes "ist")))
  ok ← in_range at (codes "ist") (list_all is_address sums)
  Ok sums

-- a selector in IA32_STAR from which SYSCALL takes CS and SS
abbrev pub is_star_kernel : ℕ → Bool
is_star_kernel n = within 8 65520 n && multiple_of_8 n

-- a selector in IA32_STAR from which SYSRET takes CS and SS
abbrev pub is_star_user : ℕ → Bool
is_star_user n = clear 2 n && within 8 65499 n

-- a CS of privilege level 3 in the GDT
abbrev pub is_user_cs32 : ℕ → Bool
is_user_cs32 n = (not (clear 0 n) && not (clear 1 n)) && (clear 2 n && within 11 65535 n)

abbrev pub is_fmask : ℕ → Bool
is_fmask n = nat_lt n (2 ^ 32) && clear 1 n

abbrev pub some : {A E : Type 0} → Result A E → Result (Option A) E
some read = do
  x ← read
  Ok (Some x)

unfoldable pub cpu : Section → Result CpuSetup ConfigFault
cpu at = do
  kernel_gs ← address_in (nat_le 0xffff800000000000) at (codes "kernel_gs")
  kernel_cr3 ← address_in (λ a. nat_lt a (2 ^ 63)) at (codes "kernel_cr3")
  user_cr3 ← address_in (λ a. nat_lt a (2 ^ 63)) at (codes "user_cr3")
  idt ← address_in (nat_le (2 ^ 63)) at (codes "idt")
  gdt ← address_in (nat_le (2 ^ 63)) at (codes "gdt")
  tss ← address_in (nat_le (2 ^ 63)) at (codes "tss")
  syscall ← address_in (nat_le (2 ^ 63)) at (codes "syscall")
  fmask ← address_in is_fmask at (codes "fmask")
  star_kernel ← number_in is_star_kernel at (codes "star_kernel")
  star_user ← number_in is_star_user at (codes "star_user")
  user_cs32 ← or_default at (codes "user_cs32") None (some (number_in is_user_cs32 at (codes "user_cs32")))
  user_gs_writes ← boolean at (codes "user_gs_writes")
  rsp0 ← address at (codes "rsp0")
  ist ← ist_stacks at
  ok ← only_keys at
  Ok (record {
    kernel_gs = kernel_gs;
    kernel_cr3 = kernel_cr3;
    user_cr3 = user_cr3;
    idt = idt;
    gdt = gdt;
    tss = tss;
    syscall = syscall;
    fmask = fmask;
    star_kernel = star_kernel;
    star_user = star_user;
    user_cs32 = user_cs32;
    user_gs_writes = user_gs_writes;
    rsp0 = rsp0;
    ist = ist;
  })

-- ---- regions

-- a to z, 0 to 9, or _
abbrev pub is_name_character : ℕ → Bool
is_name_character c = within 97 122 c || within 48 57 c || c == 95

abbrev pub name_of : List ℕ → Option (List ℕ)
name_of t = if within 1 32 (length t) && list_all is_name_character t then Some t else None

abbrev pub kind_of : List ℕ → Option Kind
kind_of t =
    if bytes_eq t (codes "text") then Some Text
    else if bytes_eq t (codes "area") then Some Area
    else if bytes_eq t (codes "data") then Some Plain
    else if bytes_eq t (codes "stack") then Some Stack
    else if bytes_eq t (codes "guard") then Some Guard
    else if bytes_eq t (codes "user") then Some User
    else None

-- the flags that a kind may have, and the one that a stack has to have
abbrev pub may_write : Kind → Bool → Bool
may_write Text write = not write
may_write Guard write = not write
may_write Stack write = write
may_write _ write = true

abbrev pub may_be_text : Kind → Bool → Bool
may_be_text Text set = true
may_be_text _ set = not set

abbrev pub may_fault : Kind → Bool → Bool
may_fault Guard set = not set
may_fault _ set = true

abbrev pub may_be_marked : Kind → Bool → Bool
may_be_marked Stack set = true
may_be_marked _ set = not set

-- the addresses from `at` on, so many as `size` says
unfoldable pub span : Section → Result Range ConfigFault
span at = do
  from ← address at (codes "at")
  size ← address at (codes "size")
  ok ← in_range at (codes "size") (nat_lt (from + size) (2 ^ 64))
  Ok (record { from = from; to = from + size })

-- the flags, each with its rule by the kind
unfoldable pub flags : Kind → Section → Result Flags ConfigFault
flags kind at = do
  user_map ← flag at (codes "user_map")
  write ← flag at (codes "write")
  ok ← in_range at (codes "write") (may_write kind write)
  exec ← flag at (codes "exec")
  ok ← in_range at (codes "exec") (may_be_text kind exec)
  faults ← flag at (codes "may_fault")
  ok ← in_range at (codes "may_fault") (may_fault kind faults)
  quiet ← flag at (codes "quiet")
  ok ← in_range at (codes "quiet") (may_be_text kind quiet)
  marked ← flag at (codes "marked")
  ok ← in_range at (codes "marked") (may_be_marked kind marked)
  Ok (record { user_map = user_map; write = write; exec = exec; may_fault = faults; quiet = quiet; marked = marked })

unfoldable pub region : Section → Result Region ConfigFault
region at = do
  name ← word name_of at (codes "name")
  place ← span at
  kind ← word kind_of at (codes "kind")
  set ← flags kind at
  ok ← only_keys at
  Ok (record {
    name = name;
    span = place;
    kind = kind;
    user_map = set.user_map;
    write = set.write;
    exec = set.exec;
    may_fault = set.may_fault;
    quiet = set.quiet;
    marked = set.marked;
  })

-- ---- gates

-- any vector but that of a double fault
abbrev pub is_vector : ℕ → Bool
is_vector n = nat_le n 255 && not (n == 8)

unfoldable pub gate : Section → Result Gate ConfigFault
gate at = do
  vector ← number_in is_vector at (codes "vector")
  entry ← address at (codes "entry")
  ist ← or_default at (codes "ist") 0 (number_in (within 0 7) at (codes "ist"))
  trap ← flag at (codes "trap")
  user ← flag at (codes "user")
  ok ← in_range at (codes "user") (not user || nat_le 32 vector)
  ok ← only_keys at
  Ok (record { vector = vector; entry = entry; ist = ist; trap = trap; user = user })

-- ---- handlers

abbrev pub is_event : List ℕ → Bool
is_event t = bytes_eq t (codes "irq") || (bytes_eq t (codes "debug") || bytes_eq t (codes "fault"))

-- the events of a list of names, each of which is one
unfoldable pub events : Section → Result Events ConfigFault
events at = do
  found ← array_of as_str at (codes "events")
  ok ← in_range at (codes "events") (list_all is_event found)
  Ok (record {
    irq = list_any (λ t. bytes_eq t (codes "irq")) found;
    debug = list_any (λ t. bytes_eq t (codes "debug")) found;
    fault = list_any (λ t. bytes_eq t (codes "fault")) found;
  })

abbrev pub after_if_of : List ℕ → Option AfterIf
after_if_of t =
    if bytes_eq t (codes "keep") then Some Keep
    else if bytes_eq t (codes "on") then Some On
    else if bytes_eq t (codes "off") then Some Off
    else if bytes_eq t (codes "any") then Some Any
    else None

abbrev pub is_handler_stack : ℕ → Bool
is_handler_stack n = nat_le n 65536 && multiple_of_8 n

abbrev pub is_frame : ℕ → Bool
is_frame n = within 8 4096 n && multiple_of_8 n

unfoldable pub handler : Section → Result Handler ConfigFault
handler at = do
  entry ← address at (codes "entry")
  stack ← number_in is_handler_stack at (codes "stack")
  inside ← events at
  after_if ← word after_if_of at (codes "after_if")
  returns ← boolean at (codes "returns")
  frame ← or_default at (codes "frame") None (some (number_in is_frame at (codes "frame")))
  ok ← only_keys at
  Ok (record {
    entry = entry;
    stack = stack;
    irq = inside.irq;
    debug = inside.debug;
    fault = inside.fault;
    after_if = after_if;
    returns = returns;
    frame = frame;
  })

-- ---- tracked words

unfoldable pub tracked_word : Section → Result Word ConfigFault
tracked_word at = do
  first ← address_in multiple_of_8 at (codes "at")
  value ← address at (codes "value")
  ok ← only_keys at
  Ok (record { at = first; value = value })
