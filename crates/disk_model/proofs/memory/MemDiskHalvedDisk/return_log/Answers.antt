use Rattle.std.proofs.Common.{rules, ◌≡◌, ◌≤◌, ◌∷◌, [], ◌++◌, ℕ, max, Bool, List, length, refl, sym, subst}
use Rattle.std.proofs.lemmas.Grind.{common_steps}
use Rattle.disk_model.specs.Content.{IsImage}
use Rattle.disk_model.specs.Counts.{most_by}
use Rattle.disk_model.specs.Halves.{AreHalves}
use Rattle.disk_model.specs.Memory.{bytes_of, has_stopped, most_failures_of}
use Rattle.disk_model.specs.Waiting.{waiting_now}
use Rattle.disk_model.specs.declared.content.Content.{Content}
use Rattle.disk_model.specs.declared.era.Era.TheVariants.{Whole, Halved}
use Rattle.disk_model.proofs.Cuts.{there_image}
use Rattle.disk_model.proofs.Cutting.{bytes_joined, joined_left}
use Rattle.disk_model.proofs.EraSteps.{rejoins_behind}
use Rattle.disk_model.proofs.memory.MemDiskHalvedDisk.return_log.Goals as goal

abbrev Left : Content → List ℕ → Type 0
Left content c = IsImage content.bytes.items (waiting_now content) c

pub invariant_of-self : goal.invariant_of-self
invariant_of-self c =
    let home = c.args.self.now in
    let log = c.args.log in
    let first = there_image home.there home.content.bytes.items (waiting_now home.content) home.left in
    let second = there_image log.there log.content.bytes.items (waiting_now log.content) log.left in
    let both = joined_left (length home.content.bytes.items) c.joined-whole.ensures.halves (bytes_of home) (bytes_of log) first.size first second in
    record {
      left = λ x is.
          subst (λ (k : Content). Left k x.items) (sym c.replace.ensures.after)
          (subst (Left c.joined-whole.result) (sym (c.there_beside-there.ensures.bytes x is)) both);
    }

pub returns-clause-time : goal.returns-clause-time
returns-clause-time c =
    let home = c.args.self.now in
    let log = c.args.log in
    let was = c.args.past.content in
    let whole = c.replace.new.dest in
    let pushed : c.push_reserved-2.new.self.items ≡ c.args.past.eras.items
    ++ Whole (record { base = was.base; loose = was.loose; log = was.log })
    ∷ Halved c.args.past.border home.eras (record { base = home.content.base; loose = home.content.loose; log = home.content.log }) log.eras (record { base = log.content.base; loose = log.content.loose; log = log.content.log })
    ∷ [] = search (rules, common_steps) in
    let begins : whole.log.items ≡ [] = search rules in
    let halves : AreHalves c.args.past.border whole.bytes.items home.content.bytes.items log.content.bytes.items (Left whole) (Left home.content) (Left log.content) =
    subst (λ (n : ℕ). AreHalves n whole.bytes.items home.content.bytes.items log.content.bytes.items (Left whole) (Left home.content) (Left log.content)) c.requires.home
    (subst (λ (k : Content). AreHalves (length home.content.bytes.items) k.bytes.items home.content.bytes.items log.content.bytes.items (Left k) (Left home.content) (Left log.content)) (sym c.replace.ensures.after) c.joined-whole.ensures.halves) in
    rejoins_behind c.args.past.eras.items c.push_reserved-2.new.self.items _ c.args.past.border home.eras _ log.eras _ pushed whole home.content log.content begins refl refl refl refl refl refl halves

pub returns-clause-bytes : goal.returns-clause-bytes
returns-clause-bytes c =
    let home = c.args.self.now in
    let log = c.args.log in
    let joined : c.replace.new.dest.bytes.items ≡ home.content.bytes.items ++ log.content.bytes.items = search rules in
    bytes_joined c.there_beside-there.result home.there log.there c.replace.new.dest.bytes.items home.content.bytes.items log.content.bytes.items c.there_beside-there.ensures.some c.there_beside-there.ensures.bytes joined

pub returns-clause-most : goal.returns-clause-most
returns-clause-most c =
    let home = c.args.self.now in
    let turns = c.rejoin.new.self in
    subst (λ (stopped : Bool). most_by turns.script stopped turns.failures ≤ max (most_failures_of home) (most_failures_of c.args.log)) (sym c.there_beside-there.ensures.some)
    (c.rejoin.ensures.most (has_stopped home) (has_stopped c.args.log))
