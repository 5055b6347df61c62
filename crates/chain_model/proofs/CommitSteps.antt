-- How a commit that ends keeps what its chain stands for: lemmas.
use Rattle.std.proofs.Common.{if◌then◌else◌, ◌≡◌, ℕ, ◌-◌, ◌<◌, ◌≤◌, Bool, true, false, None, List, [], ◌∷◌, ◌++◌, map, refl, sym, subst, arith}
use Rattle.std.specs.Prelude.{All, fold}
use Rattle.std.specs.List.{flat_map}
use Rattle.std.proofs.lemmas.List.{length-drop}
use Rattle.std.proofs.lemmas.List.Elements.{All-nil, All-weaker}
use Rattle.version_table.specs.Held.{writes_upto}
use Rattle.volume.specs.Writes.{patched}
use Rattle.chain_steps.specs.Node.{last_of}
use Rattle.chain_steps.specs.Steps.{ended}
use Rattle.world_model.specs.Backing.{Disk, IsBacked}
use Rattle.world_model.proofs.BackingSteps.{all_rise, backs_more_disk}
use Rattle.world_model.specs.Chain.{AreBefore}
use Rattle.world_model.proofs.Counting.{all_at, flat_split, maps_same}
use Rattle.world_model.specs.Machine.{Plays}
use Rattle.world_model.specs.Requests.{Requests}
use Rattle.world_model.proofs.Standing.{shows_stay}
use Rattle.chain_model.specs.Chain.{HasApplied, HasVolume, IsApplied, IsTold, MembersStand}
use Rattle.chain_model.proofs.Changing.{all_changed, are, changes, requests_split, were}
use Rattle.chain_model.specs.Laws.{EndsCommit, with_members}
use Rattle.chain_model.proofs.MemberSteps.{idle, it_drops_found, reach, volume_is}
use Rattle.chain_model.proofs.NetSteps.{Reach}
use Rattle.chain_model.proofs.Ordering.{apart_from, order_commits, sends_nothing, works_of}
use Rattle.chain_model.proofs.PassingSteps.{sends_none}
use Rattle.chain_model.specs.View.{Member, View, disk_in, disk_of, may_be_recorded, next_of, slot_of}

module _ (size : ℕ) (v : View) (above : List Member) (m : Member) (below : List Member) (p : ℕ) (runs : m.node.stopped ≡ None) (from : m.node.table.forgotten < p) (upto : p ≤ m.node.known) where
  abbrev done : Member
  done = record m { node = ended p m.node; volume = fold patched m.volume (writes_upto m.node.table p) }

  -- what holds of a list with its disk or without it
  module _ (one other : List Disk) where
    backed_more : (b : Bool) → IsBacked v.told.front v.told.mask v.told.gauges v.told.receipts v.told.musters (one ++ ((if b then disk_of m ∷ [] else []) ++ other))
        → IsBacked v.told.front v.told.mask v.told.gauges v.told.receipts v.told.musters (one ++ ((if b then disk_of done ∷ [] else []) ++ other))
    backed_more true is = backs_more_disk one (disk_of m) p other (omega (arith, from)) v.told.front v.told.mask v.told.gauges v.told.receipts v.told.musters is
    backed_more false is = is

    more : (b : Bool) (backed : ℕ) → All (λ d. backed ≤ d.durable) (one ++ ((if b then disk_of m ∷ [] else []) ++ other)) → All (λ d. backed ≤ d.durable) (one ++ ((if b then disk_of done ∷ [] else []) ++ other))
    more true backed all = all_rise one (disk_of m) p other (omega (arith, from)) (λ d. backed ≤ d.durable) (λ le. omega (arith, from)) all
    more false backed all = all

  commits : Plays size (MembersStand size (with_members v (above ++ m ∷ below))) (MembersStand size (with_members v (above ++ record m { node = ended p m.node; volume = fold patched m.volume (writes_upto m.node.table p) } ∷ below))) []
  commits = changes size v above m done below v.links v.submits []
      (λ s line backed stands.
      let reached : Reach v.told.front line m.node = reach size v above m below s line backed runs stands in
      let same : last_of (ended p m.node) ≡ last_of m.node = omega (arith, from, upto, reached.known, reached.has, length-drop (p - m.node.table.forgotten) m.node.table.kept) in (
        line,
        backed,
        record {
          slot = refl;
          incarnation = refl;
          order = order_commits v.recorded v.before above m done below stands.slots refl v.links v.links stands.places runs v.told.front line
              (works_of v.recorded v.before above m done below stands.slots refl v.links v.links [] [] (sends_nothing m.node) (apart_from v.recorded v.before above m done below stands.slots refl v.links v.links stands.places runs)
              (sends_none (slot_of m) v.links)) (stands.order, stands.holders) p from upto refl;
          volumes = all_changed (HasVolume size v.told.front line) above m done below
              (λ was. record { committed = omega (arith, upto, reached.known); is = volume_is size v above m below s line backed p runs stands (omega (arith, from)) (omega (arith, upto, reached.known, reached.has)) }) stands.volumes;
          told = all_at (λ x. IsTold v.recorded v.before x.node) above m below stands.places.told;
          behind = λ late. late;
          linked = stands.links;
          numbers = record { applied = subst (λ n. All (IsApplied n) m.node.waiting) (sym same) (all_at HasApplied above m below stands.numbers).applied; none = λ stops. absurd (stops runs) };
          disks = subst (λ ds. IsBacked v.told.front v.told.mask v.told.gauges v.told.receipts v.told.musters ds) (sym (flat_split (disk_in v.recorded v.writing) above done below))
              (backed_more (flat_map (disk_in v.recorded v.writing) above) (flat_map (disk_in v.recorded v.writing) below) (may_be_recorded v.recorded v.writing m.node)
              (subst (λ ds. IsBacked v.told.front v.told.mask v.told.gauges v.told.receipts v.told.musters ds) (flat_split (disk_in v.recorded v.writing) above m below) stands.disks));
          backs = subst (All (λ d. backed ≤ d.durable)) (sym (flat_split (disk_in v.recorded v.writing) above done below))
              (more (flat_map (disk_in v.recorded v.writing) above) (flat_map (disk_in v.recorded v.writing) below) (may_be_recorded v.recorded v.writing m.node) backed
              (subst (All (λ d. backed ≤ d.durable)) (flat_split (disk_in v.recorded v.writing) above m below) stands.backs));
          raised = All-nil (λ front. front ≤ v.told.front);
          tickets = subst (All (AreBefore (are size v above m done below v.links v.submits [] line))) (sym (maps_same next_of above m done below refl))
              (All-weaker (AreBefore (were size v above m done below v.links v.submits [] line)) (AreBefore (are size v above m done below v.links v.submits [] line)) (λ next is. record { line = is.line; submits = is.submits; tokens = is.tokens })
              (map next_of (above ++ m ∷ below)) (subst (λ (r : Requests). All (AreBefore r) (map next_of (above ++ m ∷ below))) (requests_split v line above m below) stands.tickets));
          origins = stands.origins;
          clients = shows_stay size backed (were size v above m done below v.links v.submits [] line) (idle size v above m below line) (it_drops_found size v above m below line backed);
        },
      ))

-- a commit of known writes is done
pub ends_commit : EndsCommit
ends_commit size v above m below p runs from upto = commits size v above m below p runs from upto
