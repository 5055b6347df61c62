use Rattle.std.proofs.Common.{◌≡◌, ℕ, List, false, true, ap, refl, subst, sym, ◌∙◌, arith}
use Rattle.disk_model.specs.Calm.{calm_runs}
use Rattle.disk_model.specs.Memory.{failures_of, has_stopped, may_be_left, moment_of}
use Rattle.local_store.specs.About.{About, meaning_with}
use Rattle.local_store.specs.Kept.{stored_means}
use Rattle.local_store.specs.Meaning.{Means}
use Rattle.life.proofs.Starting.{IsStore, about_of_store, keeps_volume}
use Rattle.life.proofs.recovering.ready.Goals as goal
use Rattle.life.proofs.Configured.{left_now}
use Rattle.life.proofs.recovering.ready.Goals.{in-Two, in-One+in_default}

-- what is left of a store's disk means what the store means
left_means : (s : IsStore) (volume c : List ℕ) → keeps_volume s volume → may_be_left s.disk c → Means (meaning_with (about_of_store s) volume) c
left_means s volume c kept left = stored_means kept.stands kept c left

pub returns-in-Err-clause-means : goal.returns-in-Err-clause-means
returns-in-Err-clause-means c = λ volume kept x left.
    let run = c.migrate.ensures.any_moment tt volume kept in
    run.each x (left_now c.migrate.new.self.disk (moment_of c.args.store.disk) x run.later (subst (λ d. may_be_left d x) c.into_disk.ensures left))

pub returns-then-is_stopped-clause-means : goal.returns-then-is_stopped-clause-means
returns-then-is_stopped-clause-means c = λ volume kept x left.
    let Left : IsStore → Type 0 = λ s. may_be_left s.disk x in
    let here : Left c.match-version.store = subst (λ d. may_be_left d x) c.into_disk-then-is_stopped.ensures left in
    elim c.match-version.branch [
      | in-Two w ↦ left_means c.args.store volume x kept (subst Left w.store-is here)
      | in-One+in_default w ↦
          subst (λ (a : About). Means (meaning_with a volume) x) w.in_default.ensures.ok
          (left_means w.migrate.new.self volume x (w.in_default.ensures.kept tt volume kept) (subst Left w.store-is here))
    ]

pub returns-then-is_stopped-clause-calm : goal.returns-then-is_stopped-clause-calm
returns-then-is_stopped-clause-calm c = λ calm.
    let Runs : IsStore → Type 0 = λ s. has_stopped s.disk ≡ false in
    let runs : Runs c.match-version.store = elim c.match-version.branch [
      | in-Two w ↦ subst Runs (sym w.store-is) (calm_runs c.args.store.disk (failures_of c.args.store.disk) refl calm)
      | in-One+in_default w ↦ subst Runs (sym w.store-is) (calm_runs w.migrate.new.self.disk (failures_of c.args.store.disk) w.in_default.ensures.cause.done (omega (arith, calm, w.migrate.ensures.most)))
    ] in
    let stopped : has_stopped c.match-version.store.disk ≡ true = ap has_stopped (sym c.disk.ensures) ∙ sym c.is_stopped.ensures ∙ c.if-is_stopped.true in
    let differ : false ≡ true = sym runs ∙ stopped in
    absurd (cc)

pub returns-clause-kept : goal.returns-clause-kept
returns-clause-kept c = λ volume kept.
    let Keeps : IsStore → Type 0 = λ s. keeps_volume s volume in
    elim c.match-version.branch [
      | in-Two w ↦ subst Keeps (sym w.store-is) kept
      | in-One+in_default w ↦ subst Keeps (sym w.store-is) (w.in_default.ensures.kept tt volume kept)
    ]

pub returns-then-is_stopped-clause-untouched : goal.returns-then-is_stopped-clause-untouched
returns-then-is_stopped-clause-untouched c = λ two.
    elim c.match-version.branch [
      | in-Two w ↦ c.into_disk-then-is_stopped.ensures ∙ ap (λ (s : IsStore). s.disk) w.store-is
      | in-One+in_default w ↦ let one = w.in-One.ensures in absurd (cc)
    ]
