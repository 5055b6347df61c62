use Rattle.std.proofs.Common.{ℕ, ◌≡◌, ◌≤◌, ◌+◌, ◌++◌, [], ◌∷◌, List, length, drop, take, refl, ap, subst, sym, ◌∙◌, inl, arith}
use Rattle.std.specs.List.{AllZip}
use Rattle.std.proofs.lemmas.List.{append_assoc, length-append, take-append-drop, take_all, take_more}
use Rattle.volume.specs.declared.geometry.Geometry.{Geometry}
use Rattle.world_model.specs.Machine.{start}
use Rattle.life.specs.Begun.{export_of}
use Rattle.life.specs.Headline.{BreaksOff}
use Rattle.life.specs.declared.refusal.Refusal.{Refusal}
use Rattle.life.specs.declared.era.Answers.{Answers}
use Rattle.life.specs.declared.era.Era.{Era}
use Rattle.life.proofs.Beside.{all_more}
use Rattle.life.proofs.Eras.{eras_more, first_fresh, one_life}
use Rattle.life.proofs.Impostors.{first_dated, none_outside}
use Rattle.life.proofs.Returning.{breaks_off, passed_on}
use Rattle.life.proofs.Starting.{ErasOnDisks, about_of_store, disk_in, failures_in, keeps_volume, leaves_now, left_in, moment_in, pends_in}
use Rattle.life.proofs.living.live.Goals as goal

-- at most an answer to each deed
abbrev IsAll : Era → Answers → Type 0
IsAll era answers = length answers.items.items ≤ length era.deeds.items

pub loop-era-init : goal.loop-era-init
loop-era-init c = record {
  disks = c.in_ok-managed.ensures.disks;
  go = c.in_ok-managed.ensures.go;
  rests = c.in_ok-managed.ensures.rests;
  impostors = none_outside c.in_ok-managed.managed c.in_ok-managed.ensures.outside;
  dated = first_dated c.in_ok-managed.managed c.args.geometry c.args.members c.in_ok-managed.ensures.slots c.in_ok-managed.ensures.recorded c.in_ok-managed.ensures.outside;
  recorded = c.in_ok-managed.ensures.recorded;
  rested = c.in_ok-managed.ensures.rests;
  nobody = c.in_ok-managed.ensures.outside;
  first = c.in_ok-managed.managed;
  slots = c.in_ok-managed.ensures.slots;
  begins = c.in_ok-managed.ensures.begins;
  state = start;
  leads = subst (λ (l : List Answers). ErasOnDisks (export_of c.args.geometry) [] l c.in_ok-managed.managed start c.in_ok-managed.managed start) (sym c.in_ok-answers.ensures.items) (refl, refl);
  fresh = first_fresh (Unit {0}) about_of_store keeps_volume pends_in leaves_now moment_in left_in failures_in disk_in c.chains_begin_again.ensures.first c.args.geometry c.in_ok-managed.managed.world c.in_ok-managed.ensures.begins;
  all = subst (AllZip IsAll []) (sym c.in_ok-answers.ensures.items) tt;
  many = ap length c.in_ok-answers.ensures.items;
  count = c.in_ok-answers.ensures.len;
  room = omega (arith, c.in_ok-answers.ensures.capacity);
}

pub push_reserved-requires : goal.push_reserved-requires
push_reserved-requires c = omega (arith, c.loop-era.invariant.count, c.loop-era.invariant.room, c.loop-era-test.true)

pub loop-era-preserved : goal.loop-era-preserved
loop-era-preserved c =
    let inv = c.loop-era.invariant in
    let (state, did, fresh) = c.in_ok-told.ensures.lived (export_of c.args.geometry) inv.state inv.fresh in
    let i = c.loop-era.era-index in
    let eras = c.args.eras.now in
    let era = c.era-item.result in
    let answers = c.loop-era.answers.items in
    let these : Answers = record { items = c.in_ok-told.told } in
    let new = c.push_reserved.new.self.items in
    let items : new ≡ answers ++ these ∷ [] = c.push_reserved.ensures.items in
    let here : take (i + 1) eras ≡ take i eras ++ era ∷ [] = take_more eras i era c.loop-era-test.true ∙ ap (λ (e : Era). take i eras ++ e ∷ []) (sym c.era-item.is) in
    record {
      disks = c.in_ok-told.ensures.disks;
      go = c.in_ok-told.ensures.go;
      rests = c.in_ok-told.ensures.rests;
      impostors = c.in_ok-told.ensures.impostors;
      dated = c.in_ok-told.ensures.dated;
      recorded = inv.recorded;
      rested = inv.rested;
      nobody = inv.nobody;
      first = inv.first;
      slots = inv.slots;
      begins = inv.begins;
      state = state;
      leads = subst (λ (l : List Era). ErasOnDisks (export_of c.args.geometry) l new inv.first start c.in_ok-told.next state) (sym here)
          (subst (λ (l : List Answers). ErasOnDisks (export_of c.args.geometry) (take i eras ++ era ∷ []) l inv.first start c.in_ok-told.next state) (sym items)
          (eras_more (Unit {0}) about_of_store keeps_volume pends_in leaves_now moment_in left_in failures_in disk_in (export_of c.args.geometry) (take i eras) answers inv.first start c.loop-era.managed inv.state c.in_ok-told.next state era these inv.leads did));
      fresh = fresh;
      all = subst (λ (l : List Era). AllZip IsAll l new) (sym here)
          (subst (AllZip IsAll (take i eras ++ era ∷ [])) (sym items) (all_more IsAll (take i eras) answers era these inv.all c.in_ok-told.ensures.all));
      many = let sum = length-append answers (these ∷ []) in omega (arith, inv.many, ap length items, sum);
      count = omega (arith, inv.count, c.push_reserved.ensures.len);
      room = omega (arith, inv.room, c.push_reserved.ensures.capacity);
    }

pub returns-clause-all : goal.returns-clause-all
returns-clause-all c = subst (λ (l : List Era). AllZip IsAll l c.loop-era.answers.items) (take_all c.loop-era.era-index c.args.eras.now c.loop-era-test.false) c.loop-era.invariant.all

pub returns-clause-one_life : goal.returns-clause-one_life
returns-clause-one_life c =
    let inv = c.loop-era.invariant in
    let whole = take_all c.loop-era.era-index c.args.eras.now c.loop-era-test.false in
    one_life (Unit {0}) about_of_store keeps_volume pends_in leaves_now moment_in left_in failures_in disk_in c.args.geometry c.args.members c.args.eras.now c.loop-era.answers.items inv.first c.loop-era.managed inv.state inv.slots inv.begins inv.recorded inv.rested inv.nobody
    (subst (λ (l : List Era). ErasOnDisks (export_of c.args.geometry) l c.loop-era.answers.items inv.first start c.loop-era.managed inv.state) whole inv.leads) inv.fresh

pub live_era-requires-clause-fresh : goal.live_era-requires-clause-fresh
live_era-requires-clause-fresh c = (export_of c.args.geometry, c.loop-era.invariant.state, c.loop-era.invariant.fresh)

-- why a life breaks off
abbrev BreaksSo : Geometry → ℕ → List Era → Refusal → Type 0
BreaksSo = BreaksOff (Unit {0}) about_of_store keeps_volume pends_in leaves_now moment_in left_in failures_in disk_in

pub returns-in_err-told-clause-refused : goal.returns-in_err-told-clause-refused
returns-in_err-told-clause-refused c =
    let inv = c.loop-era.invariant in
    let i = c.loop-era.era-index in
    let eras = c.args.eras.now in
    let era = c.era-item.result in
    let here : take (i + 1) eras ≡ take i eras ++ era ∷ [] = take_more eras i era c.loop-era-test.true ∙ ap (λ (e : Era). take i eras ++ e ∷ []) (sym c.era-item.is) in
    let whole : take i eras ++ era ∷ drop (i + 1) eras ≡ eras = sym (append_assoc (take i eras) (era ∷ []) (drop (i + 1) eras)) ∙ ap (λ (l : List Era). l ++ drop (i + 1) eras) (sym here) ∙ take-append-drop (i + 1) eras in
    passed_on c.from_residual-in_err-told.result c.in_err-told.field-0.0 (BreaksSo c.args.geometry c.args.members eras) c.from_residual-in_err-told.ensures.1
    (breaks_off (Unit {0}) about_of_store keeps_volume pends_in leaves_now moment_in left_in failures_in disk_in c.in_err-told.field-0.0 c.args.geometry c.args.members eras (take i eras) era (drop (i + 1) eras) c.loop-era.answers.items c.loop-era.managed (sym whole)
    (one_life (Unit {0}) about_of_store keeps_volume pends_in leaves_now moment_in left_in failures_in disk_in c.args.geometry c.args.members (take i eras) c.loop-era.answers.items inv.first c.loop-era.managed inv.state inv.slots inv.begins inv.recorded inv.rested inv.nobody inv.leads inv.fresh)
    c.in_err-told.ensures.refused)

pub returns-in_err-managed-clause-refused : goal.returns-in_err-managed-clause-refused
returns-in_err-managed-clause-refused c =
    passed_on c.from_residual-in_err-managed.result c.in_err-managed.field-0.0 (BreaksSo c.args.geometry c.args.members c.args.eras.now) c.from_residual-in_err-managed.ensures.1
    (inl c.in_err-managed.ensures.refused)
