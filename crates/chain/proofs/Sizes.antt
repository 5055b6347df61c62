-- When two volumes have the same sizes.
use Rattle.std.proofs.Common.{eqb, ◌≡◌, ◌≤◌, ℕ, ◌&&◌, Bool, true, false, refl, sym, subst, ◌∙◌}
use Rattle.std.proofs.Math.Path.{subst₃}
use Rattle.std.proofs.Props.{props}
use Rattle.std.proofs.lemmas.Bool.{and_from, eq-eqb, eqb-true}
use Rattle.volume.specs.Limits.{AreBlocks, IsPayload, least_area_of}
use Rattle.volume.specs.declared.geometry.Geometry.{Geometry}

-- they are three numbers
module _ (g : Geometry) where
  abbrev Same : ℕ → ℕ → ℕ → Type 0
  Same blocks area max_payload = (some : AreBlocks blocks) (range : IsPayload max_payload) (fits : least_area_of max_payload ≤ area)
      → g ≡ record { blocks = blocks; area = area; max_payload = max_payload; some_blocks = some; payload_in_range = range; area_fits = fits }

  blocks_prop : IsProp (AreBlocks g.blocks)
  blocks_prop = hlevel props

  payload_prop : IsProp (IsPayload g.max_payload)
  payload_prop = hlevel props

  area_prop : IsProp (least_area_of g.max_payload ≤ g.area)
  area_prop = hlevel props

  same_here : Same g.blocks g.area g.max_payload
  same_here some range fits = λ i. record {
    blocks = g.blocks;
    area = g.area;
    max_payload = g.max_payload;
    some_blocks = blocks_prop g.some_blocks some i;
    payload_in_range = payload_prop g.payload_in_range range i;
    area_fits = area_prop g.area_fits fits i;
  }

  same_numbers : (h : Geometry) → g.blocks ≡ h.blocks → g.area ≡ h.area → g.max_payload ≡ h.max_payload → g ≡ h
  same_numbers h blocks area max_payload = subst₃ Same blocks area max_payload same_here h.some_blocks h.payload_in_range h.area_fits

both : (x y : Bool) → (x && y) ≡ true → (x ≡ true) × (y ≡ true)
both true y is = (refl, is)
both false y is = let no : false ≡ true = is in absurd cc

pub same_sizes : (g h : Geometry) (is : Bool) → is ≡ (eqb g.blocks h.blocks && (eqb g.area h.area && eqb g.max_payload h.max_payload)) → (is ≡ true → g ≡ h) × (g ≡ h → is ≡ true)
same_sizes g h is compared = (
  (λ yes.
      let one = both (eqb g.blocks h.blocks) (eqb g.area h.area && eqb g.max_payload h.max_payload) (sym compared ∙ yes) in
      let other = both (eqb g.area h.area) (eqb g.max_payload h.max_payload) one.1 in
      same_numbers g h (eqb-true g.blocks h.blocks one.0) (eqb-true g.area h.area other.0) (eqb-true g.max_payload h.max_payload other.1)),
  (λ same. compared ∙ subst (λ (k : Geometry). (eqb g.blocks k.blocks && (eqb g.area k.area && eqb g.max_payload k.max_payload)) ≡ true) same
      (and_from (eqb g.blocks g.blocks) (eqb g.area g.area && eqb g.max_payload g.max_payload) (eq-eqb g.blocks g.blocks refl)
      (and_from (eqb g.area g.area) (eqb g.max_payload g.max_payload) (eq-eqb g.area g.area refl) (eq-eqb g.max_payload g.max_payload refl)))),
)
