-- What is known of latches, this project's own: a flat order under Any for each, and the three part by part.
use Rattle.std.specs.Prelude.{ℕ, ◌+◌, Bool, true, false, ◌&&◌, IsTrue, IsFalse}
use Rattle.kc_shapes.specs.Flat.{flat_below, flat_joined, flat_rank}
use Rattle.kc_space.specs.declared.latches.Latches.{Latches}
use Rattle.kc_space.specs.declared.tri.Tri.{Tri}
use Rattle.kc_space.specs.declared.tri.Tri.TheVariants.{No, Yes, Any}

abbrev pub is_same_tri : Tri → Tri → Bool
is_same_tri No No = true
is_same_tri Yes Yes = true
is_same_tri Any Any = true
is_same_tri _ _ = false

abbrev pub tri_below : Tri → Tri → Bool
tri_below lesser greater = flat_below is_same_tri Any lesser greater

abbrev pub tri_joined : Tri → Tri → Tri
tri_joined x y = flat_joined is_same_tri Any x y

abbrev pub tri_rank : Tri → ℕ
tri_rank x = flat_rank is_same_tri Any x

-- its number in a certificate
abbrev pub tri_number : Tri → ℕ
tri_number No = 0
tri_number Yes = 1
tri_number Any = 2

-- the latch may be set, or clear, as this says
abbrev pub TriStands : Tri → Bool → Type 0
TriStands No set = IsFalse set
TriStands Yes set = IsTrue set
TriStands Any set = Unit {0}

abbrev pub latches_below : Latches → Latches → Bool
latches_below lesser greater =
    tri_below lesser.nmi_blocked greater.nmi_blocked
    && (tri_below lesser.shadow greater.shadow && tri_below lesser.mcip greater.mcip)

abbrev pub latches_joined : Latches → Latches → Latches
latches_joined x y = record {
  nmi_blocked = tri_joined x.nmi_blocked y.nmi_blocked;
  shadow = tri_joined x.shadow y.shadow;
  mcip = tri_joined x.mcip y.mcip;
}

abbrev pub latches_top : Latches
latches_top = record { nmi_blocked = Any; shadow = Any; mcip = Any }

abbrev pub latches_rank : Latches → ℕ
latches_rank x = tri_rank x.nmi_blocked + (tri_rank x.shadow + tri_rank x.mcip)
