-- One member of a chain steps: what is shown of the chain then, and what happened in it.
use Rattle.std.proofs.Common.{◌≡◌, true, ℕ, ◌<◌, List, [], ◌∷◌, ◌++◌, length, refl, ap, sym, subst, ◌∙◌}
use Rattle.std.specs.Prelude.{All, None, Some, slice_get, slice_index_or, slice_set}
use Rattle.std.specs.List.{AllZip, flat_map}
use Rattle.std.proofs.lemmas.List.{append-nil, set-get_or}
use Rattle.std.proofs.lemmas.List.Elements.{All-head, All-set}
use Rattle.std.proofs.lemmas.Option.{get_or_from_slice_get, slice_get_read}
use Rattle.local_store.specs.About.{About}
use Rattle.world_model.specs.Chain.{ArePutOut}
use Rattle.world_model.proofs.Counting.{all_behind, flat_same}
use Rattle.world_model.specs.Event.{ClientEvent}
use Rattle.chain_model.specs.Laws.{with_members}
use Rattle.chain_model.specs.Life.{Does, Doing, Happening, Happens, MemberDoes}
use Rattle.chain_model.specs.View.{Member, View}
use Rattle.chain.specs.Chain.{Chained, Goes, IsFormed, IsIn, Shows, are_inner, bytes_of, told_of}
use Rattle.chain.specs.Member.{IsShown, Linked, fronts_of, member_of, musters_of, receipts_of}
use Rattle.chain.proofs.Cells.{Place, place_of, twin_of}

-- what all have, the one at a place has
pub all_at : {A : Type 0} (P : A → Type 0) (xs : List A) (at : ℕ) (x : A) → slice_get xs at ≡ Some x → All P xs → P x
all_at P xs at x here all = let place = place_of xs at x here in All-head P x place.below (all_behind P place.above (x ∷ place.below) (subst (All P) place.split all))

-- what a call reads at a place
pub read_at : {S : Type 0} (old now : Chained S) (at : ℕ) (x : Linked S) → old ≡ now → at < length now.members → x ≡ slice_index_or old.members at x → slice_get old.members at ≡ Some x
read_at old now at x same within is = slice_get_read old.members (length now.members) at x (ap (λ o. length o.members) (sym same)) within is

-- just this happens
pub just_goes : (size : ℕ) (v w : View) (h : Happening) (events : List ClientEvent) → are_inner (h ∷ []) ≡ true → Happens size h v w events → Goes size v w events
just_goes size v w h events inner happens = record { happenings = h ∷ []; each = events ∷ []; inner = inner; era = (w, events, [], refl, happens, (refl, refl)); all = append-nil events }

-- the member uses the board as before
pub record UsesAsBefore {S : Type 0} (before after : Linked S) : Type 0 where
  pub front : fronts_of after.front ≡ fronts_of before.front
  pub muster : musters_of after.muster ≡ musters_of before.muster
  pub receipt : receipts_of after.receipt ≡ receipts_of before.receipt

module _ {S : Type 0} (old : Chained S) (at : ℕ) (before after : Linked S) (here : slice_get old.members at ≡ Some before) where
  abbrev pub then : Chained S
  then = record old { members = slice_set old.members at after }

  place : Place old.members at before
  place = place_of old.members at before here

  gathers : {B : Type 0} (f : Linked S → List B) → f after ≡ f before → flat_map f (slice_set old.members at after) ≡ flat_map f old.members
  gathers f is = ap (flat_map f) (place.setting after) ∙ flat_same f place.above before after place.below is ∙ ap (flat_map f) (sym place.split)

  pub told_stays : UsesAsBefore before after → told_of then ≡ told_of old
  told_stays same = rw (gathers (λ m. fronts_of m.front) same.front, gathers (λ m. musters_of m.muster) same.muster, gathers (λ m. receipts_of m.receipt) same.receipt) refl

  -- the member is one of the chain still
  pub formed_then : (about : S → About) → (IsIn about old.id old.seat old.geometry before → IsIn about old.id old.seat old.geometry after) → IsFormed about old → IsFormed about then
  formed_then about stays formed = record {
    members = All-set (IsIn about old.id old.seat old.geometry) old.members at after (stays (all_at (IsIn about old.id old.seat old.geometry) old.members at before here formed.members)) formed.members;
    all_links = formed.all_links;
    all_submits = formed.all_submits;
    links_inside = formed.links_inside;
    submits_inside = formed.submits_inside;
  }

  pub formed_still : (about : S → About) → after ≡ before → IsFormed about old → IsFormed about then
  formed_still about same formed = formed_then about (subst (IsIn about old.id old.seat old.geometry) (sym same)) formed

  -- the same member in its place changes nothing
  pub same_then : after ≡ before → then ≡ old
  same_then same = ap (λ ms. record old { members = ms }) (ap (slice_set old.members at) same ∙ ap (slice_set old.members at) (sym (get_or_from_slice_get old.members at before before here)) ∙ set-get_or old.members at before)

module _ {S : Type 0} (about : S → About) (keeps : S → List ℕ → Type 0) (may_leave_now : S → List ℕ → Type 0) (old : Chained S) where
  abbrev IsSo : Linked S → Member → Type 0
  IsSo m shown = IsShown about keeps may_leave_now (bytes_of old) m shown

  abbrev ShowsSo : Chained S → View → Type 0
  ShowsSo c v = Shows about keeps may_leave_now c v

  -- nothing happens
  pub rests : (new : Chained S) (v : View) (events : List ClientEvent) → new ≡ old → ShowsSo old v → ArePutOut [] events
      → (w : View) × ShowsSo new w × Goes (bytes_of old) v w events
  rests new v events same shows put_out = (v, subst (λ c. ShowsSo c v) (sym same) shows, record { happenings = []; each = []; inner = refl; era = (refl, refl); all = sym put_out })

  -- a member that has the same store, writes and known commit, and runs only if it did, is shown at the same volume
  pub shown_still : (before after : Linked S) (m g : Member) → IsSo before m → g ≡ member_of after g.volume g.demands → g.volume ≡ m.volume
      → after.node.store ≡ before.node.store → after.node.state.table ≡ before.node.state.table → after.node.state.known ≡ before.node.state.known
      → (after.node.state.stopped ≡ None → before.node.state.stopped ≡ None) → IsSo after g
  shown_still before after m g so is volume store table known runs = record {
    is = is;
    whole = rw volume so.whole;
    keeping = λ on. rw (volume, store) (so.keeping (runs on));
    left = λ c may. rw (volume, store, table, known) (so.left c (rw (← store) may));
    durable = rw (store, table) so.durable;
    behind = rw (table, known) so.behind;
  }

  module _ (at : ℕ) (before after : Linked S) (here : slice_get old.members at ≡ Some before) where
    -- this happens at the member
    pub one_happens : (h : Happening) (v : View) (events : List ClientEvent) → are_inner (h ∷ []) ≡ true → UsesAsBefore before after → ShowsSo old v
        → ((over : List Member) (m : Member) (under : List Member) → v.members ≡ over ++ m ∷ under → IsSo before m
        → (g : Member) × IsSo after g × Happens (bytes_of old) h v (with_members v (over ++ g ∷ under)) events)
        → (w : View) × ShowsSo (then old at before after here) w × Goes (bytes_of old) v w events
    one_happens h v events inner same shows step =
        let place = place_of old.members at before here in
        let twin = twin_of IsSo place.above before place.below v.members (subst (λ l. AllZip IsSo l v.members) place.split shows.members) in
        let did = step twin.over twin.own twin.under twin.are twin.fits in (
          with_members v (twin.over ++ did.0 ∷ twin.under),
          record {
            told = shows.told ∙ sym (told_stays old at before after here same);
            recorded = shows.recorded;
            before = shows.before;
            writing = shows.writing;
            youngest = shows.youngest;
            members = subst (λ l. AllZip IsSo l (twin.over ++ did.0 ∷ twin.under)) (sym (place.setting after)) (twin.others after did.0 place.below twin.under did.1 twin.rest);
            links = shows.links;
            submits = shows.submits;
          },
          just_goes (bytes_of old) v (with_members v (twin.over ++ did.0 ∷ twin.under)) h events inner did.2,
        )

    -- the member does so
    pub one_does : (doing : Doing) (v : View) (events : List ClientEvent) → UsesAsBefore before after → ShowsSo old v
        → ((m : Member) → IsSo before m → (g : Member) × IsSo after g × Does v doing m g events)
        → (w : View) × ShowsSo (then old at before after here) w × Goes (bytes_of old) v w events
    one_does doing v events same shows step = one_happens (MemberDoes doing) v events refl same shows (λ over m under are so.
        let did = step m so in
        (did.0, did.1, record { above = over; old = m; new = did.0; below = under; were = are; are = refl; change = did.2 }))

-- the member at a place is in the chain
pub in_at : {S : Type 0} (about : S → About) (c : Chained S) (at : ℕ) (m : Linked S) → slice_get c.members at ≡ Some m → IsFormed about c → IsIn about c.id c.seat c.geometry m
in_at about c at m here formed = all_at (IsIn about c.id c.seat c.geometry) c.members at m here formed.members
