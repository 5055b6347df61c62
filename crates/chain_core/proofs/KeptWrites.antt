-- A write that is kept: what the volume is behind it, and that it lies inside.
use Rattle.std.proofs.Common.{◌≡◌, ℕ, suc, ◌+◌, ◌-◌, ◌<◌, ◌≤◌, List, [], ◌∷◌, ◌++◌, get_or, length, map, refl, ap, sym, subst, ◌∙◌, arith}
use Rattle.std.specs.Prelude.{All, fold, slice_index_or, take}
use Rattle.std.proofs.lemmas.List.{map-append, take_more}
use Rattle.std.proofs.lemmas.List.Sums.{fold-append}
use Rattle.version_table.specs.declared.kept.Kept.{Kept}
use Rattle.volume.specs.Writes.{Fits, Placed, patched}
use Rattle.chain_steps.specs.Node.{NodeState, durable_of, last_of}
use Rattle.chain_steps.specs.Steps.{volume_at}

module _ (node : NodeState) (n : ℕ) (write : Kept) (above : durable_of node < n) (applied : n ≤ last_of node) (is : write ≡ slice_index_or node.table.kept (n - node.table.forgotten - 1) write) where
  abbrev at : ℕ
  at = n - node.table.forgotten - 1

  within : at < length node.table.kept
  within = omega (arith, above, applied)

  -- behind it the volume is that behind the one before, with it
  pub one_write_more : (volume : List ℕ) → volume_at volume node n ≡ patched (volume_at volume node (n - 1)) write.write
  one_write_more volume =
      let writes : List Kept → List Placed = map (λ (k : Kept). k.write) in
      let next : n - node.table.forgotten ≡ at + 1 = omega (arith, above) in
      let before : n - 1 - node.table.forgotten ≡ at = omega (arith, above) in
      ap (λ m. fold patched volume (writes (take m node.table.kept))) next
      ∙ ap (λ ks. fold patched volume (writes ks)) (take_more node.table.kept at write within)
      ∙ ap (fold patched volume) (map-append (λ (k : Kept). k.write) (take at node.table.kept) (get_or node.table.kept at write ∷ []))
      ∙ fold-append patched volume (writes (take at node.table.kept)) (writes (get_or node.table.kept at write ∷ []))
      ∙ ap (λ (k : Kept). patched (fold patched volume (writes (take at node.table.kept))) k.write) (sym is)
      ∙ ap (λ m. patched (fold patched volume (writes (take m node.table.kept))) write.write) (sym before)

  -- it lies in the volume, as all that are kept do
  pub fits_at : (size : ℕ) → All (λ k. Fits size k.write) node.table.kept → Fits size write.write
  fits_at size all = subst (λ (k : Kept). Fits size k.write) (sym is) (all at write within)
