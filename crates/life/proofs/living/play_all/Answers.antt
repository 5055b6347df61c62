use Rattle.std.proofs.Common.{◌≡◌, ◌+◌, ◌++◌, [], ◌∷◌, List, false, true, length, drop, take, refl, ap, subst, sym, ◌∙◌, arith}
use Rattle.std.specs.Prelude.{zip}
use Rattle.std.proofs.lemmas.List.{append_assoc, length-append, length-take-le, take-append-drop, take_all, take_more}
use Rattle.life.specs.Headline.{Trace}
use Rattle.life.specs.Lived.{AreOfOneVolume}
use Rattle.life.specs.Played.{handed_by}
use Rattle.life.specs.declared.answer.Answer.{Answer}
use Rattle.life.specs.declared.era.Deed.{Deed}
use Rattle.life.proofs.Outside.{outside_stays, outside_then}
use Rattle.life.proofs.Lives.{GoOnCopied, are_of_one_volume, none_turn, turn_more, turn_to_stop, zip_less, zip_more}
use Rattle.life.proofs.Leading.{leads_more, leads_to_stop}
use Rattle.life.proofs.Stops.{unfed}
use Rattle.life.specs.Plays.{HasMetStop}
use Rattle.clients.specs.Clients.{no_one}
use Rattle.life.proofs.Starting.{LeadOnDisks, about_of_store, disk_in, failures_in, keeps_volume, leaves_now, left_in, moment_in, pends_in}
use Rattle.life.proofs.living.play_all.Goals as goal

pub loop-deed-init : goal.loop-deed-init
loop-deed-init c = record {
  plays = subst (λ (l : List Answer). LeadOnDisks [] l c.args.managed.now c.args.managed.now) (sym c.in_ok-answers.ensures.items) refl;
  pass = subst (λ (l : List Answer). GoOnCopied about_of_store keeps_volume leaves_now (zip [] l) c.args.managed.now c.args.managed.now) (sym c.in_ok-answers.ensures.items)
      (none_turn about_of_store keeps_volume leaves_now c.args.managed.now c.sound.ensures.sessions c.requires.nobody);
  runs = c.requires.go;
  outside = outside_stays c.args.managed.now c.args.managed.now refl;
  many = ap length c.in_ok-answers.ensures.items;
  count = c.in_ok-answers.ensures.len;
  room = omega (arith, c.in_ok-answers.ensures.capacity);
}

pub push_reserved-requires : goal.push_reserved-requires
push_reserved-requires c = omega (arith, c.loop-deed.invariant.count, c.loop-deed.invariant.room, c.loop-deed-test.true)

pub loop-deed-preserved : goal.loop-deed-preserved
loop-deed-preserved c =
    let inv = c.loop-deed.invariant in
    let i = c.loop-deed.deed-index in
    let deeds = c.args.deeds.now in
    let deed = c.deed-item.result in
    let answers = c.loop-deed.answers.items in
    let answer = c.play_deed-answer.result in
    let items = c.push_reserved.ensures.items in
    let here : take (i + 1) deeds ≡ take i deeds ++ deed ∷ [] = take_more deeds i deed c.loop-deed-test.true ∙ ap (λ (d : Deed). take i deeds ++ d ∷ []) (sym c.deed-item.is) in
    let long : length answers ≡ length (take i deeds) = inv.many ∙ sym (length-take-le i deeds (omega (arith, c.loop-deed-test.true))) in
    let told : zip (take (i + 1) deeds) c.push_reserved.new.self.items ≡ zip (take i deeds) answers ++ (deed, answer) ∷ [] =
    ap (λ (l : List Deed). zip l c.push_reserved.new.self.items) here ∙ ap (zip (take i deeds ++ deed ∷ [])) items ∙ zip_more (take i deeds) answers deed answer long in
    let runs : HasMetStop disk_in c.play_deed-answer.new.managed → ⊥ = λ met. let yes : c.has_met_stop.result ≡ true = c.has_met_stop.ensures.1 met in let no : false ≡ true = sym c.if-has_met_stop.false ∙ yes in absurd (cc) in
    record {
      plays = subst (λ (l : List Deed). LeadOnDisks l c.push_reserved.new.self.items c.args.managed.now c.play_deed-answer.new.managed) (sym here)
          (subst (λ (l : List Answer). LeadOnDisks (take i deeds ++ deed ∷ []) l c.args.managed.now c.play_deed-answer.new.managed) (sym items)
          (leads_more (Unit {0}) about_of_store keeps_volume pends_in leaves_now moment_in left_in failures_in disk_in (take i deeds) answers c.args.managed.now c.loop-deed.managed c.play_deed-answer.new.managed deed answer long inv.plays c.play_deed-answer.ensures.does runs));
      pass = subst (λ (l : Trace). GoOnCopied about_of_store keeps_volume leaves_now l c.args.managed.now c.play_deed-answer.new.managed) (sym told)
          (turn_more about_of_store keeps_volume leaves_now c.lives_are_of_one_volume.ensures.happenings c.args.managed.now c.loop-deed.managed c.play_deed-answer.new.managed c.sound.ensures.joined c.sound-in-loop-deed.ensures.joined
          (zip (take i deeds) answers) deed answer c.sound-in-loop-deed-2.ensures.sessions inv.pass c.play_deed-answer.ensures.one_volume c.play_deed-answer.ensures.copy);
      runs = runs;
      outside = outside_then c.args.managed.now c.loop-deed.managed c.play_deed-answer.new.managed inv.outside c.play_deed-answer.ensures.outside;
      many = let sum = length-append answers (answer ∷ []) in omega (arith, inv.many, ap length items, sum);
      count = omega (arith, inv.count, c.push_reserved.ensures.len);
      room = omega (arith, inv.room, c.push_reserved.ensures.capacity);
    }

pub returns-then-has_met_stop-clause-all : goal.returns-then-has_met_stop-clause-all
returns-then-has_met_stop-clause-all c = omega (arith, c.loop-deed.invariant.many, c.loop-deed-test.true)

pub returns-then-has_met_stop-clause-plays : goal.returns-then-has_met_stop-clause-plays
returns-then-has_met_stop-clause-plays c =
    let inv = c.loop-deed.invariant in
    let i = c.loop-deed.deed-index in
    let deeds = c.args.deeds.now in
    let deed = c.deed-item.result in
    let here : take (i + 1) deeds ≡ take i deeds ++ deed ∷ [] = take_more deeds i deed c.loop-deed-test.true ∙ ap (λ (d : Deed). take i deeds ++ d ∷ []) (sym c.deed-item.is) in
    let whole : take i deeds ++ deed ∷ drop (i + 1) deeds ≡ deeds =
    sym (append_assoc (take i deeds) (deed ∷ []) (drop (i + 1) deeds)) ∙ ap (λ (l : List Deed). l ++ drop (i + 1) deeds) (sym here) ∙ take-append-drop (i + 1) deeds in
    let long : length c.loop-deed.answers.items ≡ length (take i deeds) = inv.many ∙ sym (length-take-le i deeds (omega (arith, c.loop-deed-test.true))) in
    subst (λ (l : List Deed). LeadOnDisks l c.loop-deed.answers.items c.args.managed.now c.play_deed-answer.new.managed) whole
    (leads_to_stop (Unit {0}) about_of_store keeps_volume pends_in leaves_now moment_in left_in failures_in disk_in (take i deeds) c.loop-deed.answers.items c.args.managed.now c.loop-deed.managed c.play_deed-answer.new.managed deed c.play_deed-answer.result
    (drop (i + 1) deeds) long inv.plays c.play_deed-answer.ensures.does (c.has_met_stop.ensures.0 c.if-has_met_stop.true))

pub returns-then-has_met_stop-clause-outside : goal.returns-then-has_met_stop-clause-outside
returns-then-has_met_stop-clause-outside c = outside_then c.args.managed.now c.loop-deed.managed c.play_deed-answer.new.managed c.loop-deed.invariant.outside c.play_deed-answer.ensures.outside

pub returns-clause-outside : goal.returns-clause-outside
returns-clause-outside c = c.loop-deed.invariant.outside

pub returns-then-has_met_stop-clause-pass : goal.returns-then-has_met_stop-clause-pass
returns-then-has_met_stop-clause-pass c =
    let inv = c.loop-deed.invariant in
    let i = c.loop-deed.deed-index in
    let deeds = c.args.deeds.now in
    let deed = c.deed-item.result in
    let answers = c.loop-deed.answers.items in
    let answer = c.play_deed-answer.result in
    let long : length answers ≡ length (take i deeds) = inv.many ∙ sym (length-take-le i deeds (omega (arith, c.loop-deed-test.true))) in
    let told : zip deeds answers ≡ zip (take i deeds) answers = ap (λ (l : List Deed). zip l answers) (sym (take-append-drop i deeds)) ∙ zip_less (take i deeds) answers (drop i deeds) long in
    let met : HasMetStop disk_in c.play_deed-answer.new.managed = c.has_met_stop.ensures.0 c.if-has_met_stop.true in (
      handed_by deed answer,
      subst (λ (l : Trace). AreOfOneVolume about_of_store keeps_volume leaves_now l (handed_by deed answer) c.args.managed.now.world c.play_deed-answer.new.managed.world) (sym told)
          (turn_to_stop about_of_store keeps_volume leaves_now c.lives_are_of_one_volume.ensures.happenings c.args.managed.now c.loop-deed.managed c.play_deed-answer.new.managed c.sound.ensures.joined c.sound-in-loop-deed.ensures.joined
          (zip (take i deeds) answers) deed answer
          (unfed (Unit {0}) about_of_store keeps_volume pends_in leaves_now moment_in left_in failures_in disk_in deed answer c.loop-deed.managed c.play_deed-answer.new.managed c.play_deed-answer.ensures.does inv.runs met)
          inv.pass c.play_deed-answer.ensures.one_volume),
    )

pub returns-clause-all : goal.returns-clause-all
returns-clause-all c = let most = c.loop-deed.auto.deed-index-end in omega (arith, c.loop-deed.invariant.many, most)

pub returns-clause-plays : goal.returns-clause-plays
returns-clause-plays c = subst (λ (l : List Deed). LeadOnDisks l c.loop-deed.answers.items c.args.managed.now c.loop-deed.managed)
    (take_all c.loop-deed.deed-index c.args.deeds.now c.loop-deed-test.false) c.loop-deed.invariant.plays

pub returns-clause-pass : goal.returns-clause-pass
returns-clause-pass c = (
  no_one,
  are_of_one_volume about_of_store keeps_volume leaves_now (zip c.args.deeds.now c.loop-deed.answers.items) c.args.managed.now c.loop-deed.managed
      (subst (λ (l : List Deed). GoOnCopied about_of_store keeps_volume leaves_now (zip l c.loop-deed.answers.items) c.args.managed.now c.loop-deed.managed)
      (take_all c.loop-deed.deed-index c.args.deeds.now c.loop-deed-test.false) c.loop-deed.invariant.pass),
)
