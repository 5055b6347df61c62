-- A member that was removed is forgotten: what is shown of the chain then, and what happened in it.
use Rattle.std.proofs.Common.{◌≡◌, ◌≤◌, ℕ, true, List, [], ◌∷◌, map, refl, ap, sym, subst, ◌∙◌}
use Rattle.std.specs.Prelude.{All, None, Some, option_map, slice_get}
use Rattle.std.specs.List.{flat_map, remove}
use Rattle.std.proofs.lemmas.List.Concat.{flat_map-append}
use Rattle.std.proofs.lemmas.List.Elements.{All-nil}
use Rattle.std.proofs.lemmas.Option.{same_Some, slice_get-map}
use Rattle.board.specs.Mask.{counts}
use Rattle.configurations.specs.Record.{Record}
use Rattle.local_store.specs.About.{About}
use Rattle.chain_steps.specs.Node.{NodeState, epoch_of}
use Rattle.chain_steps.specs.Place.{incarnation_in}
use Rattle.world_model.specs.Backing.{Disk, IsBacked, IsMustered, IsOnDisk, Muster}
use Rattle.world_model.specs.Chain.{BoardInUse}
use Rattle.world_model.proofs.Counting.{all_between, flat_split}
use Rattle.world_model.specs.Requests.{Held}
use Rattle.chain_model.specs.Chain.{IsWithin}
use Rattle.chain_model.specs.Life.{BoardTells, IsForgotten, IsToldOfDisks, MemberForgotten}
use Rattle.chain_model.specs.View.{Member, View, disks_of}
use Rattle.chain.specs.Chain.{Chained, IsFormed, IsIn, Shows, bytes_of, told_of}
use Rattle.chain.specs.Forgetting.{GoesForgetting, MayForget}
use Rattle.chain.specs.Member.{IsShown, Linked, fronts_of, musters_of, receipts_of}
use Rattle.chain.proofs.Cells.{all_left, gap_of, map_left, zip_at, zip_left}
use Rattle.chain.proofs.RecordingSteps.{all_shown}

-- ---- the chain without it

-- what is so of all that they have is so of what the others have
fewer : {A B : Type 0} (f : A → List B) (P : B → Type 0) (xs : List A) (at : ℕ) (x : A) → slice_get xs at ≡ Some x → All P (flat_map f xs) → All P (flat_map f (remove xs at))
fewer f P xs at x here all =
    let gap = gap_of xs at x here in
    subst (λ l. All P (flat_map f l)) (sym gap.left) (subst (All P) (sym (flat_map-append f gap.above gap.below))
    (all_between P (flat_map f gap.above) (flat_map f gap.below) (f x) [] (λ some. All-nil P)
    (subst (All P) (flat_split f gap.above x gap.below) (subst (λ l. All P (flat_map f l)) gap.were all))))

module _ {S : Type 0} (old : Chained S) (at : ℕ) (member : Linked S) (here : slice_get old.members at ≡ Some member) where
  -- the chain once it is forgotten
  abbrev pub forgotten : Chained S
  forgotten = record old { members = remove old.members at }

  pub forgotten_formed : (about : S → About) → IsFormed about old → IsFormed about forgotten
  forgotten_formed about formed = record {
    members = all_left (IsIn about old.id old.seat old.geometry) old.members at formed.members;
    all_links = formed.all_links;
    all_submits = formed.all_submits;
    links_inside = formed.links_inside;
    submits_inside = formed.submits_inside;
  }

  -- the board is told of as much, or less
  less_within : IsWithin (told_of old).front (told_of old).gauges (told_of old).receipts (told_of old).musters
      → IsWithin (told_of forgotten).front (told_of forgotten).gauges (told_of forgotten).receipts (told_of forgotten).musters
  less_within is = record {
    gauges_within = is.gauges_within;
    receipts_within = fewer (λ (m : Linked S). receipts_of m.receipt) (λ r. r.front ≤ old.words.front) old.members at member here is.receipts_within;
    musters_within = fewer (λ (m : Linked S). musters_of m.muster) (λ (m : Muster). All (λ r. r.front ≤ old.words.front) m.gauges) old.members at member here is.musters_within;
  }

  less_backed : (disks : List Disk) → IsBacked (told_of old).front (told_of old).mask (told_of old).gauges (told_of old).receipts (told_of old).musters disks
      → IsBacked (told_of forgotten).front (told_of forgotten).mask (told_of forgotten).gauges (told_of forgotten).receipts (told_of forgotten).musters disks
  less_backed disks is = record {
    mask_covers = is.mask_covers;
    gauges_backed = is.gauges_backed;
    receipts_backed = fewer (λ (m : Linked S). receipts_of m.receipt) (IsOnDisk disks) old.members at member here is.receipts_backed;
    mustered = fewer (λ (m : Linked S). musters_of m.muster) (IsMustered old.words.front disks) old.members at member here is.mustered;
  }

  -- ---- what happens

  module _ (about : S → About) (keeps : S → List ℕ → Type 0) (may_leave_now : S → List ℕ → Type 0) (v : View) (shows : Shows about keeps may_leave_now old v) where
    abbrev IsSo : Linked S → Member → Type 0
    IsSo m shown = IsShown about keeps may_leave_now (bytes_of old) m shown

    abbrev demands_in : Member → List Held
    demands_in m = m.demands

    pub forgets_goes : slice_get (map demands_in v.members) at ≡ Some [] → MayForget at old → (w : View) × Shows about keeps may_leave_now forgotten w × GoesForgetting (bytes_of old) at v w
    forgets_goes nothing may =
        let (own, there, fits) = zip_at IsSo old.members v.members at member shows.members here in
        let gap = gap_of v.members at own there in
        let its : may.member ≡ member = same_Some may.member member (sym may.here ∙ here) in
        let node : own.node ≡ may.member.node.state = ap (λ (m : Member). m.node) fits.is ∙ ap (λ (m : Linked S). m.node.state) (sym its) in
        let demands : own.demands ≡ [] = same_Some own.demands [] (sym (slice_get-map demands_in v.members at ∙ ap (option_map demands_in) there) ∙ nothing) in
        let mid : View = record v { told = told_of forgotten } in
        let w : View = record mid { members = remove v.members at } in
        let tells : IsToldOfDisks v mid = record {
          told = told_of forgotten;
          front = sym (ap (λ (b : BoardInUse). b.front) shows.told);
          within = λ is. less_within (subst (λ (b : BoardInUse). IsWithin b.front b.gauges b.receipts b.musters) shows.told is);
          joiner = λ j is counted. subst (λ (b : BoardInUse). counts b.mask j.slot ≡ true) shows.told counted;
          backed = λ is. less_backed (disks_of v.recorded v.writing v.members)
              (subst (λ (b : BoardInUse). IsBacked b.front b.mask b.gauges b.receipts b.musters (disks_of v.recorded v.writing v.members)) shows.told is);
          fronts = λ all. fewer (λ (m : Linked S). fronts_of m.front) (λ f. f ≤ old.words.front) old.members at member here (subst (λ (b : BoardInUse). All (λ f. f ≤ b.front) b.fronts) shows.told all);
          are = refl;
        } in
        let goes : IsForgotten mid w = record {
          above = gap.above;
          member = own;
          below = gap.below;
          were = gap.were;
          idle = record {
            out = ap (λ (n : NodeState). incarnation_in v.recorded n.place.slot) node ∙ ap (λ (r : Record). incarnation_in r may.member.node.state.place.slot) shows.recorded ∙ may.out;
            waiting = ap (λ (n : NodeState). n.waiting) node ∙ may.idle.0;
            found = ap (λ (n : NodeState). n.found) node ∙ may.idle.1;
            demands = demands;
          };
          told = all_shown about keeps may_leave_now (bytes_of old) (λ n. n.stopped ≡ None → epoch_of n ≡ v.recorded.epoch) old.members v.members shows.members
              (subst (λ (r : Record). All (λ (m : Linked S). m.node.state.stopped ≡ None → epoch_of m.node.state ≡ r.epoch) old.members) (sym shows.recorded) may.told);
          are = ap (λ ms. record mid { members = ms }) gap.left;
        } in (
          w,
          record {
            told = refl;
            recorded = shows.recorded;
            before = shows.before;
            writing = shows.writing;
            youngest = shows.youngest;
            members = zip_left IsSo old.members v.members at shows.members;
            links = shows.links;
            submits = shows.submits;
          },
          record {
            happenings = BoardTells ∷ MemberForgotten ∷ [];
            each = [] ∷ [] ∷ [];
            era = (mid, [], [] ∷ [], refl, (tells, refl), (w, [], [], refl, (goes, refl), (refl, refl)));
            all = refl;
            kept = refl;
            joiner = refl;
            demands = map_left demands_in v.members at;
          },
        )
