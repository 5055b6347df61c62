use Rattle.std.proofs.Common.{◌≡◌, false, ◌++◌, [], ◌∷◌, All, map, ap, subst, sym, ◌∙◌, arith}
use Rattle.std.specs.List.{range_with_len}
use Rattle.std.proofs.lemmas.List.{map-append}
use Rattle.std.proofs.lemmas.List.Elements.{All-append, All-cons, All-nil}
use Rattle.std.proofs.lemmas.List.FromFn.{map-range_with_len_more}
use Rattle.disk_model.specs.Memory.{has_stopped}
use Rattle.local_store.specs.About.{About}
use Rattle.life.specs.Begun.{first_about}
use Rattle.life.proofs.Starting.{IsStore, about_of_store, keeps_zeros}
use Rattle.life.proofs.beginning.first_stores.Goals as goal

-- its disk has not stopped
abbrev runs : IsStore → Type 0
runs s = has_stopped s.disk ≡ false

pub loop-number-preserved : goal.loop-number-preserved
loop-number-preserved c =
    let inv = c.loop-number.invariant in
    let n = c.loop-number.number in
    let geometry = c.args.geometry in
    let xs = c.loop-number.stores.items in
    let x = c.in_ok-first_store.field-0 in
    let items = c.push_reserved.ensures.items in
    record {
      about = ap (map about_of_store) items ∙ map-append about_of_store xs (x ∷ [])
          ∙ ap (λ l. l ++ about_of_store x ∷ []) inv.about
          ∙ ap (λ (a : About). map (first_about geometry) (range_with_len 0 n) ++ a ∷ []) c.in_ok-first_store.ensures.about
          ∙ sym (map-range_with_len_more (first_about geometry) 0 n n (omega arith));
      kept = subst (All (keeps_zeros geometry)) (sym items)
          (All-append (keeps_zeros geometry) xs (x ∷ []) inv.kept (All-cons (keeps_zeros geometry) x [] c.in_ok-first_store.ensures.kept (All-nil (keeps_zeros geometry))));
      go = subst (All runs) (sym items) (All-append runs xs (x ∷ []) inv.go (All-cons runs x [] c.in_ok-first_store.ensures.go (All-nil runs)));
      count = omega (arith, inv.count, c.push_reserved.ensures.len);
      room = omega (arith, inv.room, c.push_reserved.ensures.capacity);
    }
