use Rattle.std.proofs.Common.{◌≡◌, ℕ, Err, ap, inl, inr, refl, subst, sym, ◌∙◌, arith}
use Rattle.std.specs.Prelude.{IfErr, IfOk, Result, false, true}
use Rattle.configurations.specs.Record.{Record}
use Rattle.configurations.specs.declared.refusal.Refusal as config
use Rattle.configurations.specs.declared.refusal.Refusal.TheVariants as configs
use Rattle.disk_model.specs.Memory.{failures_of, given_of}
use Rattle.recovery.specs.Choice.{NoneRecorded}
use Rattle.life.specs.Managed.{StandsOn}
use Rattle.life.specs.Recovered.{AreCausedBy, AreOpenedWell, AreSeen, IsChosen, IsWellAt, StandsThere}
use Rattle.life.specs.Refusal.{IsCausedByConfig, IsOfCalmChoice, IsOfChoosing, IsOfLooking, IsOfMemory}
use Rattle.life.specs.declared.refusal.Refusal.{Refusal}
use Rattle.life.specs.declared.refusal.Refusal.TheVariants.{Config, NoneReturned, NotInChain}
use Rattle.life.proofs.Looking.{all_as_they_were, anyway, config_calm, looking_chooses, looking_without_config, none_chosen, of_choice, of_refusal, of_same, source_chosen, source_well}
use Rattle.life.proofs.Recovery.{fails_no_more}
use Rattle.life.proofs.choosing.choose_among.Goals as goal
use Rattle.life.proofs.choosing.choose_among.Goals.{in-Err-seen, in-Ok-seen}

pub returns-in-Err-clause-back : goal.returns-in-Err-clause-back
returns-in-Err-clause-back c = all_as_they_were c.args.disks.items

pub returns-in-Err-clause-calm : goal.returns-in-Err-clause-calm
returns-in-Err-clause-calm c =
    λ has calm calm_config.
    inl (config_calm c.args.config.now (failures_of c.open_config.new.config) c.in-Err.refusal c.in-Err.ensures.told (λ is. c.in-Err.ensures.none (ap (λ (e : config.Refusal). Err e) is)) c.in-Err.ensures.cause.failed
    (fails_no_more c.args.config.now c.open_config.new.config c.open_config.ensures.most calm_config) has)

pub returns-then-none_returns-clause-none : goal.returns-then-none_returns-clause-none
returns-then-none_returns-clause-none c =
    λ is place below.
    let held = c.args.disks.ok in
    c.if-none_returns.ensures.0 refl place (omega (arith, below, c.len.ensures, held))

pub returns-then-none_returns-clause-back : goal.returns-then-none_returns-clause-back
returns-then-none_returns-clause-back c = all_as_they_were c.args.disks.items

pub returns-then-none_returns-clause-calm : goal.returns-then-none_returns-clause-calm
returns-then-none_returns-clause-calm c = λ has calm calm_config. inr (inl refl)

pub returns-clause-chosen : goal.returns-clause-chosen
returns-clause-chosen c = elim c.match-seen.branch [
  | in-Ok-seen w ↦
      subst (λ (choice : Result ℕ Refusal). IfOk choice (λ place. (x : Record) × StandsThere c.args.config.now x × IsChosen c.args.returned.now c.args.disks.items x place)) (sym w.choice-is) (source_chosen c.args.returned.now c.args.disks.items c.args.config.now w.current.result.now w.deref.result.now w.source_among-choice.result (subst (StandsOn (given_of c.args.config.now)) (sym w.current.ensures) c.in-Ok.ensures.stands) w.source_among-choice.ensures.members (subst (AreSeen c.args.returned.now c.args.disks.items) (sym w.deref.ensures.value) (subst (λ r. IfOk r (λ seen. AreSeen c.args.returned.now c.args.disks.items seen.items)) w.in-Ok-seen.is c.look_at_all-seen.ensures.seen)) w.source_among-choice.ensures.source)
  | in-Err-seen w ↦
      subst (λ (choice : Result ℕ Refusal). IfOk choice (λ place. (x : Record) × StandsThere c.args.config.now x × IsChosen c.args.returned.now c.args.disks.items x place)) (sym w.choice-is) (tt)
]

pub returns-clause-none : goal.returns-clause-none
returns-clause-none c = λ is. elim c.match-seen.branch [
  | in-Ok-seen w ↦
      let clash : NoneReturned ≡ NotInChain = of_refusal w.source_among-choice.result (λ e. e ≡ NotInChain) NoneReturned (of_choice w.source_among-choice.result (NoneRecorded w.current.result.now.members w.deref.result.now) (λ e. e ≡ NotInChain) w.source_among-choice.ensures.none refl) (sym w.choice-is ∙ is) in
      absurd (cc)
  | in-Err-seen w ↦ absurd (of_same c.match-seen.choice IsOfLooking w.in-Err-seen.refusal NoneReturned w.choice-is is (of_refusal c.look_at_all-seen.result.0 IsOfLooking w.in-Err-seen.refusal c.look_at_all-seen.ensures.told w.in-Err-seen.is))
]

pub returns-clause-some : goal.returns-clause-some
returns-clause-some c =
    λ is none.
    let held = c.args.disks.ok in
    let clash : false ≡ true = c.if-none_returns.ensures.1 (λ place below. none place (omega (arith, below, c.len.ensures, held))) in
    absurd (cc)

pub returns-clause-strangers : goal.returns-clause-strangers
returns-clause-strangers c = λ is. elim c.match-seen.branch [
  | in-Ok-seen w ↦
      none_chosen c.args.returned.now c.args.disks.items c.args.config.now w.current.result.now w.deref.result.now w.source_among-choice.result (subst (StandsOn (given_of c.args.config.now)) (sym w.current.ensures) c.in-Ok.ensures.stands) w.source_among-choice.ensures.members (subst (AreSeen c.args.returned.now c.args.disks.items) (sym w.deref.ensures.value) (subst (λ r. IfOk r (λ seen. AreSeen c.args.returned.now c.args.disks.items seen.items)) w.in-Ok-seen.is c.look_at_all-seen.ensures.seen)) w.source_among-choice.ensures.none (sym w.choice-is ∙ is)
  | in-Err-seen w ↦ absurd (of_same c.match-seen.choice IsOfLooking w.in-Err-seen.refusal NotInChain w.choice-is is (of_refusal c.look_at_all-seen.result.0 IsOfLooking w.in-Err-seen.refusal c.look_at_all-seen.ensures.told w.in-Err-seen.is))
]

pub returns-clause-missing : goal.returns-clause-missing
returns-clause-missing c = λ is. elim c.match-seen.branch [
  | in-Ok-seen w ↦
      let clash : Config configs.NoRecord ≡ NotInChain = of_refusal w.source_among-choice.result (λ e. e ≡ NotInChain) (Config configs.NoRecord) (of_choice w.source_among-choice.result (NoneRecorded w.current.result.now.members w.deref.result.now) (λ e. e ≡ NotInChain) w.source_among-choice.ensures.none refl) (sym w.choice-is ∙ is) in
      absurd (cc)
  | in-Err-seen w ↦ absurd (of_same c.match-seen.choice IsOfLooking w.in-Err-seen.refusal (Config configs.NoRecord) w.choice-is is (of_refusal c.look_at_all-seen.result.0 IsOfLooking w.in-Err-seen.refusal c.look_at_all-seen.ensures.told w.in-Err-seen.is))
]

pub returns-clause-told : goal.returns-clause-told
returns-clause-told c = elim c.match-seen.branch [
  | in-Ok-seen w ↦
      subst (λ (choice : Result ℕ Refusal). IfErr choice IsOfChoosing) (sym w.choice-is) (of_choice w.source_among-choice.result (NoneRecorded w.current.result.now.members w.deref.result.now) IsOfChoosing w.source_among-choice.ensures.none tt)
  | in-Err-seen w ↦
      subst (λ (choice : Result ℕ Refusal). IfErr choice IsOfChoosing) (sym w.choice-is) (looking_chooses w.in-Err-seen.refusal (of_refusal c.look_at_all-seen.result.0 IsOfLooking w.in-Err-seen.refusal c.look_at_all-seen.ensures.told w.in-Err-seen.is))
]

pub returns-clause-well : goal.returns-clause-well
returns-clause-well c = elim c.match-seen.branch [
  | in-Ok-seen w ↦
      subst (λ (choice : Result ℕ Refusal). IfOk choice (IsWellAt c.args.disks.items c.look_at_all-seen.result.1.items)) (sym w.choice-is) (source_well c.args.disks.items c.look_at_all-seen.result.1.items w.deref.result.now w.current.result.now.members w.source_among-choice.result (subst (AreOpenedWell c.args.disks.items c.look_at_all-seen.result.1.items) (sym w.deref.ensures.value) (subst (λ r. IfOk r (λ seen. AreOpenedWell c.args.disks.items c.look_at_all-seen.result.1.items seen.items)) w.in-Ok-seen.is c.look_at_all-seen.ensures.well)) w.source_among-choice.ensures.source)
  | in-Err-seen w ↦
      subst (λ (choice : Result ℕ Refusal). IfOk choice (IsWellAt c.args.disks.items c.look_at_all-seen.result.1.items)) (sym w.choice-is) (tt)
]

pub returns-clause-config_well : goal.returns-clause-config_well
returns-clause-config_well c = anyway c.match-seen.choice (failures_of c.open_config.new.config ≡ failures_of c.args.config.now) c.in-Ok.ensures.cause.done

pub returns-clause-cause : goal.returns-clause-cause
returns-clause-cause c = elim c.match-seen.branch [
  | in-Ok-seen w ↦
      subst (λ (choice : Result ℕ Refusal). IfErr choice (AreCausedBy c.args.disks.items c.look_at_all-seen.result.1.items)) (sym w.choice-is) (of_choice w.source_among-choice.result (NoneRecorded w.current.result.now.members w.deref.result.now) (AreCausedBy c.args.disks.items c.look_at_all-seen.result.1.items) w.source_among-choice.ensures.none tt)
  | in-Err-seen w ↦
      subst (λ (choice : Result ℕ Refusal). IfErr choice (AreCausedBy c.args.disks.items c.look_at_all-seen.result.1.items)) (sym w.choice-is) (of_refusal c.look_at_all-seen.result.0 (AreCausedBy c.args.disks.items c.look_at_all-seen.result.1.items) w.in-Err-seen.refusal c.look_at_all-seen.ensures.cause w.in-Err-seen.is)
]

pub returns-clause-config_cause : goal.returns-clause-config_cause
returns-clause-config_cause c = elim c.match-seen.branch [
  | in-Ok-seen w ↦
      subst (λ (choice : Result ℕ Refusal). IfErr choice (IsCausedByConfig (failures_of c.args.config.now) (failures_of c.open_config.new.config))) (sym w.choice-is) (of_choice w.source_among-choice.result (NoneRecorded w.current.result.now.members w.deref.result.now) (IsCausedByConfig (failures_of c.args.config.now) (failures_of c.open_config.new.config)) w.source_among-choice.ensures.none tt)
  | in-Err-seen w ↦
      subst (λ (choice : Result ℕ Refusal). IfErr choice (IsCausedByConfig (failures_of c.args.config.now) (failures_of c.open_config.new.config))) (sym w.choice-is) (looking_without_config (failures_of c.args.config.now) (failures_of c.open_config.new.config) w.in-Err-seen.refusal (of_refusal c.look_at_all-seen.result.0 IsOfLooking w.in-Err-seen.refusal c.look_at_all-seen.ensures.told w.in-Err-seen.is))
]

pub returns-clause-calm : goal.returns-clause-calm
returns-clause-calm c = λ has calm calm_config. elim c.match-seen.branch [
  | in-Ok-seen w ↦
      subst (λ (choice : Result ℕ Refusal). IfErr choice IsOfCalmChoice) (sym w.choice-is) (of_choice w.source_among-choice.result (NoneRecorded w.current.result.now.members w.deref.result.now) IsOfCalmChoice w.source_among-choice.ensures.none (inr (inr refl)))
  | in-Err-seen w ↦
      subst (λ (choice : Result ℕ Refusal). IfErr choice IsOfCalmChoice) (sym w.choice-is) (inl (of_refusal c.look_at_all-seen.result.0 IsOfMemory w.in-Err-seen.refusal (c.look_at_all-seen.ensures.calm calm) w.in-Err-seen.is))
]
