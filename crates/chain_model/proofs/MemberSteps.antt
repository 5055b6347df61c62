-- How each step of a member that touches no link keeps what its chain stands for: lemmas.
use Rattle.std.proofs.Common.{◌≡◌, ℕ, ◌≤◌, max, Option, Some, None, List, [], ◌∷◌, ◌++◌, map, take, refl, sym, ap, subst, arith}
use Rattle.std.specs.Prelude.{All, Contains, filter, fold, not, ◌&&◌}
use Rattle.std.specs.List.{flat_map}
use Rattle.std.proofs.lemmas.List.Elements.{All-cons, All-head, All-nil}
use Rattle.board.specs.Seats.{FoundFront}
use Rattle.version_table.specs.Held.{writes_upto}
use Rattle.version_table.specs.declared.kept.Kept.{Kept}
use Rattle.version_table.specs.declared.kept.Origin.{Origin}
use Rattle.volume.specs.Writes.{patched}
use Rattle.chain_steps.specs.Node.{Commit, last_of}
use Rattle.chain_steps.specs.Steps.{answer_at, answer_floor, volume_at}
use Rattle.chain_steps.specs.Waiting.{bound, is_paid_flush, is_paid_write, is_read}
use Rattle.chain_steps.specs.declared.found.Found.TheVariants as founds
use Rattle.chain_steps.specs.declared.waiting.Waiting.{Waiting}
use Rattle.world_model.specs.Chain.{ArePutOut, IsTokenBefore, looked_by, owing_at}
use Rattle.world_model.proofs.Counting.{all_at, all_behind, contains_there}
use Rattle.world_model.specs.Event.{ClientEvent}
use Rattle.world_model.specs.Machine.{Plays, State}
use Rattle.world_model.proofs.MemberSteps.{drops_found, stays_then, then_stays, tokens_changed, tokens_left, twice_not}
use Rattle.world_model.specs.Order.{volume_after}
use Rattle.world_model.specs.Requests.{Looked, Requests}
use Rattle.world_model.specs.Requests as requests
use Rattle.world_model.proofs.Runs.{plays_then}
use Rattle.world_model.proofs.Standing.{Shows, Stays, shows_stay}
use Rattle.world_model.proofs.TokenSteps.{backs_more, drops_looked, looks}
use Rattle.chain_model.proofs.Answering.{answers_paid, answers_reads, applied_bound, applied_left, binds_all, bound_ticket}
use Rattle.chain_model.specs.Chain.{HasVolume, IsTold, MembersStand, StandsWith}
use Rattle.chain_model.proofs.Changing.{around, changes_requests, changes_there, requests_split}
use Rattle.chain_model.specs.Laws.{with_members}
use Rattle.chain_model.proofs.NetSteps.{Reach, reach_of, volume_in_line}
use Rattle.chain_model.proofs.PlaceSteps.{is_among}
use Rattle.chain_model.specs.View.{Member, View, disks_of, looked_of, slot_of, slots_of, submitted_among, tokens_of}

module _ (size : ℕ) (v : View) (above : List Member) (m : Member) (below : List Member) where
  -- the chain with this member
  abbrev pub chain_with : Member → View
  chain_with g = with_members v (above ++ g ∷ below)

  abbrev pub around_it : List Kept → Member → Requests
  around_it line g = around v line (submitted_among v.recorded v.before v.submits (slots_of (above ++ m ∷ below))) above below g

  -- what requests have left where this member keeps no front
  abbrev pub idle : List Kept → Requests
  idle line = record (around_it line m) { looked = flat_map looked_of above ++ flat_map looked_of below }

  pub it_drops_found : (line : List Kept) (backed : ℕ) → Stays backed (around_it line m) (idle line)
  it_drops_found line backed = drops_found backed (around_it line m) m.node.place.slot m.node.found (flat_map looked_of above) (flat_map looked_of below)

  -- what a member that runs has of the line
  pub reach : (s : State) (line : List Kept) (backed : ℕ) → m.node.stopped ≡ None → StandsWith size (chain_with m) s line backed → Reach v.told.front line m.node
  reach s line backed runs stands =
      let told : IsTold v.recorded v.before m.node = all_at (λ x. IsTold v.recorded v.before x.node) above m below stands.places.told in
      reach_of v.recorded v.links above m below v.told.front line stands.slots (is_among v.recorded (slot_of m) m.node.incarnation (told.there runs)) stands.order

  -- the volume of a member that runs, at a number that it has applied
  pub volume_is : (s : State) (line : List Kept) (backed j : ℕ) → m.node.stopped ≡ None → StandsWith size (chain_with m) s line backed → m.node.table.forgotten ≤ j → j ≤ last_of m.node
      → fold patched m.volume (writes_upto m.node.table j) ≡ volume_after size (take j line)
  volume_is s line backed j runs stands from upto =
      let its : HasVolume size v.told.front line m = all_at (HasVolume size v.told.front line) above m below stands.volumes in
      volume_in_line size v.told.front line m.node m.volume j (reach s line backed runs stands) its.is from upto

  -- ---- the READs that wait are answered with a front that it looked up, and the FLUSHes are bound to it

  module _ (front : FoundFront) (found : m.node.found ≡ Some (founds.Looked front)) where
    abbrev its_look : Looked
    its_look = record { slot = m.node.place.slot; front = front.number }

    abbrev looking : List Kept → List Waiting → Requests
    looking line ws = record (around_it line m) {
      looked = flat_map looked_of above ++ record { slot = m.node.place.slot; front = front.number } ∷ flat_map looked_of below;
      tokens = flat_map tokens_of above ++ (owing_at m.node ws ++ flat_map tokens_of below);
    }

    -- its front isn't above its last write, else it stops
    pub answers : (events : List ClientEvent) → m.node.stopped ≡ None → front.number ≤ last_of m.node → ArePutOut (answer_at m.volume front.number m.node).out.replies events
        → Plays size (MembersStand size (chain_with m)) (MembersStand size (chain_with (record m { node = (answer_at m.volume front.number m.node).node }))) events
    answers events runs applied out = changes_requests size v above m below None m.node.commit (answer_at m.volume front.number m.node).node.waiting m.demands events
        (λ s line backed stands. record {
          numbers = λ last all. applied_bound last front.number (filter (λ w. not (is_read w)) m.node.waiting) (applied_left last (λ w. not (is_read w)) m.node.waiting all);
          raised = λ all. All-nil (λ f. f ≤ v.told.front);
          tokens = λ next before. tokens_changed m.node (bound front.number) (bound_ticket front.number) next (filter (λ w. not (is_read w)) m.node.waiting) (tokens_left m.node is_read next m.node.waiting before);
          clients = answered s line backed stands (subst (λ (r : Requests). requests.StandsFor backed r s) (requests_split v line above m below) stands.clients);
        })
      where
        here : (line : List Kept) → around_it line m ≡ looking line m.node.waiting
        here line = ap (λ (ls : List Looked). record (around_it line m) { looked = flat_map looked_of above ++ (ls ++ flat_map looked_of below) }) (ap (looked_by m.node.place.slot) found)

        its_front : (line : List Kept) (backed : ℕ) (s : State) → requests.StandsFor backed (around_it line m) s → front.number ≤ v.told.front
        its_front line backed s (names, stands) =
            let fresh = subst (λ (ls : List Looked). All (requests.IsFresh v.told.front names.tokens) ls) (ap (λ (r : Requests). r.looked) (here line)) stands.fresh in
            (All-head (requests.IsFresh v.told.front names.tokens) (record { slot = m.node.place.slot; front = front.number }) (flat_map looked_of below)
            (all_behind (requests.IsFresh v.told.front names.tokens) (flat_map looked_of above) (record { slot = m.node.place.slot; front = front.number } ∷ flat_map looked_of below) fresh)).committed

        answered : (s : State) (line : List Kept) (backed : ℕ) → StandsWith size (chain_with m) s line backed → requests.StandsFor backed (around_it line m) s
            → Plays size (requests.StandsFor backed (around_it line m)) (requests.StandsFor backed (around_it line (record m { node = (answer_at m.volume front.number m.node).node }))) events
        answered s line backed whole stands =
            let j : ℕ = max m.node.known front.number in
            let reached = reach s line backed runs whole in
            let left : List Waiting = filter (λ w. not (is_read w)) m.node.waiting in
            let first = flat_map tokens_of above in
            let last = flat_map tokens_of below in
            let volume = volume_is s line backed j runs whole (omega (arith, reached.within)) (omega (arith, reached.known, reached.has)) in
            let among : Contains (looking line []).looked its_look = contains_there (flat_map looked_of above) (record { slot = m.node.place.slot; front = front.number }) (flat_map looked_of below) in
            let told = answers_reads size backed (looking line []) m.node its_look among refl (volume_at m.volume m.node j) j (omega arith) (omega (arith, reached.known, its_front line backed s stands)) volume m.node.waiting first last events out in
            let binding = binds_all size backed (looking line []) m.node its_look among refl left first last in
            let dropping = drops_looked backed (looking line (map (bound front.number) left)) its_look (flat_map looked_of above) (flat_map looked_of below) refl in
            subst (λ (r : Requests). Plays size (requests.StandsFor backed r) (requests.StandsFor backed (around_it line (record m { node = (answer_at m.volume front.number m.node).node }))) events) (sym (here line))
            (then_stays size backed (looking line m.node.waiting) (looking line (map (bound front.number) left)) (around_it line (record m { node = (answer_at m.volume front.number m.node).node })) events
            (then_stays size backed (looking line m.node.waiting) (looking line left) (looking line (map (bound front.number) left)) events told binding) dropping)

  -- ---- with a floor that each disk reaches, the writes with FUA and the FLUSHes up to there are answered

  pub pays : (floor : ℕ) (events : List ClientEvent) → floor ≤ v.told.front → All (λ d. floor ≤ d.durable) (disks_of v.recorded v.writing (above ++ m ∷ below)) → ArePutOut (answer_floor floor m.node).out.replies events
      → Plays size (MembersStand size (chain_with m)) (MembersStand size (chain_with (record m { node = (answer_floor floor m.node).node }))) events
  pays floor events committed reached out = changes_there size v above m (record m { node = (answer_floor floor m.node).node }) below events
      (λ s line backed stands. (
        max backed floor,
        record {
          slot = refl;
          incarnation = refl;
          node = refl;
          next = refl;
          disk = refl;
          volume = λ is. is;
          told = λ is. is;
          stopped = refl;
          numbers = λ last all. applied_left last (λ w. not (is_paid_write floor w) && not (is_paid_flush floor w)) m.node.waiting all;
          raised = λ all. All-nil (λ f. f ≤ v.told.front);
          tokens = λ next before. both_left next (tokens_left m.node (λ w. not (not (is_paid_write floor w) && not (is_paid_flush floor w))) next m.node.waiting before);
          backs = λ all i d lt. let one = all i d lt in let other = reached i d lt in omega arith;
          clients = answered line backed;
        },
      ))
    where
      both_left : (next : Origin) → All (IsTokenBefore next) (owing_at m.node (filter (λ w. not (not (not (is_paid_write floor w) && not (is_paid_flush floor w)))) m.node.waiting))
          → All (IsTokenBefore next) (owing_at m.node (filter (λ w. not (is_paid_write floor w) && not (is_paid_flush floor w)) m.node.waiting))
      both_left next all = subst (λ (ws : List Waiting). All (IsTokenBefore next) (owing_at m.node ws)) (twice_not (λ w. not (is_paid_write floor w) && not (is_paid_flush floor w)) m.node.waiting) all

      answered : (line : List Kept) (backed : ℕ)
          → Plays size (requests.StandsFor backed (around_it line m)) (requests.StandsFor (max backed floor) (around_it line (record m { node = (answer_floor floor m.node).node }))) events
      answered line backed =
          let more : ℕ = max backed floor in
          let grows : Plays size (requests.StandsFor backed (around_it line m)) (requests.StandsFor more (around_it line m)) [] =
          λ s stands. ([], s, refl, refl, backs_more backed more (around_it line m) s (omega arith) stands) in
          let ended : Shows size more (around_it line m) (around_it line (record m { node = (answer_floor floor m.node).node })) events =
          stays_then size more (around_it line m) (idle line) (around_it line (record m { node = (answer_floor floor m.node).node })) events (it_drops_found line more)
          (answers_paid size more (idle line) m.node floor committed (omega arith) m.node.waiting (flat_map tokens_of above) (flat_map tokens_of below) events out) in
          plays_then size (requests.StandsFor backed (around_it line m)) (requests.StandsFor more (around_it line m)) (requests.StandsFor more (around_it line (record m { node = (answer_floor floor m.node).node }))) [] events grows ended

  -- ---- it looks the committed front up, keeps one that it raised, or begins a commit

  pub looks_up : (front : FoundFront) → front.number ≡ v.told.front
      → Plays size (MembersStand size (chain_with m)) (MembersStand size (chain_with (record m { node = record m.node { found = Some (founds.Looked front) } }))) []
  looks_up front is = changes_requests size v above m below (Some (founds.Looked front)) m.node.commit m.node.waiting m.demands []
      (λ s line backed stands. record {
        numbers = λ last all. all;
        raised = λ all. All-nil (λ f. f ≤ v.told.front);
        tokens = λ next before. before;
        clients = looked line backed;
      })
    where
      looked : (line : List Kept) (backed : ℕ) → Plays size (requests.StandsFor backed (around_it line m)) (requests.StandsFor backed (around_it line (record m { node = record m.node { found = Some (founds.Looked front) } }))) []
      looked line backed =
          shows_stay size backed (around_it line m) (around_it line (record m { node = record m.node { found = Some (founds.Looked front) } }))
          (λ s stands. subst (λ (f : ℕ). requests.StandsFor backed (record (idle line) { looked = flat_map looked_of above ++ record { slot = m.node.place.slot; front = f } ∷ flat_map looked_of below }) s) (sym is)
          (looks backed (idle line) m.node.place.slot (flat_map looked_of above) (flat_map looked_of below) refl s (it_drops_found line backed s stands)))

  -- it keeps a front that it raised, and that is committed
  pub keeps_raised : (front : FoundFront) → front.number ≤ v.told.front
      → Plays size (MembersStand size (chain_with m)) (MembersStand size (chain_with (record m { node = record m.node { found = Some (founds.Raised front) } }))) []
  keeps_raised front le = changes_requests size v above m below (Some (founds.Raised front)) m.node.commit m.node.waiting m.demands []
      (λ s line backed stands. record {
        numbers = λ last all. all;
        raised = λ all. All-cons (λ f. f ≤ v.told.front) front.number [] le (All-nil (λ f. f ≤ v.told.front));
        tokens = λ next before. before;
        clients = shows_stay size backed (around_it line m) (idle line) (it_drops_found line backed);
      })

  -- a commit begins
  pub begins : (commit : Option Commit)
      → Plays size (MembersStand size (chain_with m)) (MembersStand size (chain_with (record m { node = record m.node { commit = commit; found = None } }))) []
  begins commit = changes_requests size v above m below None commit m.node.waiting m.demands []
      (λ s line backed stands. record {
        numbers = λ last all. all;
        raised = λ all. All-nil (λ f. f ≤ v.told.front);
        tokens = λ next before. before;
        clients = shows_stay size backed (around_it line m) (idle line) (it_drops_found line backed);
      })
