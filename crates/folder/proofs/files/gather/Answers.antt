use Rattle.std.proofs.Common.{◌≡◌, ◌⊎◌, ◌++◌, [], ◌∷◌, ℕ, List, All, IfErr, length, arith, ap, subst, sym, ◌∙◌}
use Rattle.std.proofs.lemmas.List.{length-append}
use Rattle.std.proofs.lemmas.List.Elements.{All-append, All-cons, All-nil}
use Rattle.folder.specs.Files.{AreAscendingFrom, IsFailureAmong, IsNotFound, disks_there, slots_there}
use Rattle.folder.specs.Refusal.{IsOfFiles}
use Rattle.folder.specs.declared.refusal.Refusal.TheVariants.{Memory}
use Rattle.folder.proofs.Finding.{one_behind}
use Rattle.folder.proofs.Opening.{as_many_there, disks_there-append, failed_among, passed_on, slots_ascend, slots_there-append, told_among}
use Rattle.folder.proofs.files.gather.Goals as goal

pub returns-in_err-take-clause-failed : goal.returns-in_err-take-clause-failed
returns-in_err-take-clause-failed g c =
    let failure = c.in_err-take.field-0.0 in
    let whole = ap (λ l. c.loop-opened.yielded ++ l) (sym c.in-Some.ensures.steps.0) ∙ c.loop-opened.invariant.whole in
    passed_on c.from_residual.result failure (λ f. (f.refusal ≡ Memory) ⊎ IsFailureAmong c.args.openings.items f) c.from_residual.ensures.1
    (failed_among c.args.openings.items c.loop-opened.yielded c.next.new.self.rest.items c.in-Some.opened failure whole c.in_err-take.ensures.failed)

pub returns-in_err-take-clause-told : goal.returns-in_err-take-clause-told
returns-in_err-take-clause-told g c =
    let failure = c.in_err-take.field-0.0 in
    let whole = ap (λ l. c.loop-opened.yielded ++ l) (sym c.in-Some.ensures.steps.0) ∙ c.loop-opened.invariant.whole in
    passed_on c.from_residual.result failure (λ f. IsOfFiles f.refusal) c.from_residual.ensures.1
    (told_among c.args.openings.items failure c.requires.each (failed_among c.args.openings.items c.loop-opened.yielded c.next.new.self.rest.items c.in-Some.opened failure whole c.in_err-take.ensures.failed))

pub loop-opened-preserved : goal.loop-opened-preserved
loop-opened-preserved g c =
    let inv = c.loop-opened.invariant in
    let yielded = c.loop-opened.yielded in
    let opened = c.in-Some.opened in
    record {
      whole = one_behind yielded c.loop-opened.opened-iterator.rest.items c.next.new.self.rest.items c.args.openings.items opened inv.whole c.in-Some.ensures.steps.0;
      number =
          let more = length-append yielded (opened ∷ []) in
          omega (arith, inv.number);
      config = c.take.ensures.config ∙ inv.config;
      disks = c.in_ok-take.ensures.disks ∙ ap (λ (l : List g.row.D.Denot). l ++ disks_there (opened ∷ [])) inv.disks ∙ sym (disks_there-append yielded (opened ∷ []));
      slots =
          c.in_ok-take.ensures.slots
          ∙ ap (λ (l : List ℕ). l ++ slots_there c.slot_of.result (opened ∷ [])) inv.slots
          ∙ ap (λ (n : ℕ). slots_there 0 yielded ++ slots_there n (opened ∷ [])) (omega (arith, c.slot_of.ensures, inv.number))
          ∙ sym (slots_there-append 0 yielded (opened ∷ []));
      others = All-append (λ one. IfErr one IsNotFound) yielded (opened ∷ []) inv.others (All-cons (λ one. IfErr one IsNotFound) opened [] c.in_ok-take.ensures.other (All-nil (λ one. IfErr one IsNotFound)));
    }

pub returns-clause-as_many : goal.returns-clause-as_many
returns-clause-as_many g c =
    let inv = c.loop-opened.invariant in
    ap (λ (l : List ℕ). length l) inv.slots ∙ as_many_there 0 c.loop-opened.yielded ∙ sym (ap (λ (l : List g.row.D.Denot). length l) inv.disks)

pub returns-clause-ascending : goal.returns-clause-ascending
returns-clause-ascending g c = subst (AreAscendingFrom 0) (sym c.loop-opened.invariant.slots) (slots_ascend 0 c.loop-opened.yielded)
