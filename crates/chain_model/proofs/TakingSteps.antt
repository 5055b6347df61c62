-- How what a member does with a demand of its sessions keeps what its chain stands for: lemmas.
use Rattle.std.proofs.Common.{◌≡◌, ◌≢◌, ℕ, ◌≤◌, Option, Some, None, List, [], ◌∷◌, ◌++◌, length, map, take, drop, refl, sym, ◌∙◌, ap, subst, arith}
use Rattle.std.specs.Prelude.{All, AllPairs, fold}
use Rattle.std.specs.List.{flat_map}
use Rattle.std.proofs.lemmas.List.{append_assoc, map-append, map_push}
use Rattle.std.proofs.lemmas.List.Elements.{All-append, All-cons, All-head, All-nil, All-tail}
use Rattle.flush_barrier.specs.Owed.{Owed, OwedAt}
use Rattle.flush_barrier.specs.declared.error_code.ErrorCode.{ErrorCode}
use Rattle.version_table.specs.Held.{IsClean, writes_upto}
use Rattle.version_table.specs.declared.kept.Kept.{Kept}
use Rattle.version_table.specs.declared.kept.Origin.{Origin}
use Rattle.volume.specs.Writes.{Fits, patched}
use Rattle.chain_steps.specs.Steps.{flush, read_asked}
use Rattle.chain_steps.specs.declared.found.Found.{Found}
use Rattle.chain_steps.specs.declared.found.Found.TheVariants as founds
use Rattle.chain_steps.specs.declared.waiting.Waiting.{Waiting}
use Rattle.chain_steps.specs.declared.waiting.Waiting.TheVariants as tokens
use Rattle.world_model.specs.Chain.{IsTokenBefore, at_member, looked_by, owing_at}
use Rattle.world_model.proofs.Counting.{pairs_around}
use Rattle.world_model.proofs.DemandSteps.{answers_demand, asks, drops_demand, flushes, refuses_demand}
use Rattle.world_model.specs.Event.{Answered, ClientEvent, Done, Failed, Read}
use Rattle.world_model.specs.Machine.{IsFlush, Plays, State}
use Rattle.world_model.specs.Order.{volume_after}
use Rattle.world_model.proofs.OrderSteps.{clean_range}
use Rattle.world_model.specs.Requests.{Held, Owing, Requests, ticket_of}
use Rattle.world_model.specs.Requests as requests
use Rattle.world_model.proofs.Standing.{Stays, shows_stay}
use Rattle.chain_model.specs.Chain.{IsApplied, MembersStand, StandsWith}
use Rattle.chain_model.proofs.Changing.{changes_requests}
use Rattle.chain_model.proofs.MemberSteps.{around_it, chain_with, idle, it_drops_found, reach, volume_is}
use Rattle.chain_model.specs.View.{Member, View, looked_of, slot_of, slots_of, tokens_of}

-- one more token, whose write has no number
pub applied_more : (last : ℕ) (ws : List Waiting) (w : Waiting) → IsApplied last w → All (IsApplied last) ws → All (IsApplied last) (ws ++ w ∷ [])
applied_more last ws w is all = All-append (IsApplied last) ws (w ∷ []) all (All-cons (IsApplied last) w [] is (All-nil (IsApplied last)))

module _ (size : ℕ) (v : View) (above : List Member) (m : Member) (below : List Member) (d : Held) (rest : List Held) (first : m.demands ≡ d ∷ rest) where
  abbrev its : List Kept → Member → Requests
  its line g = around_it size v above m below line g

  abbrev its_idle : List Kept → Requests
  its_idle line = idle size v above m below line

  -- its demands stand between those of the others
  pub split : (line : List Kept) → (its line m).demands ≡ flat_map (λ x. x.demands) above ++ d ∷ (rest ++ flat_map (λ x. x.demands) below)
  split line = ap (λ (ds : List Held). flat_map (λ (x : Member). x.demands) above ++ (ds ++ flat_map (λ (x : Member). x.demands) below)) first

  -- only its demands change
  only_demands : (events : List ClientEvent)
      → ((line : List Kept) (backed : ℕ) (s : State) → StandsWith size (chain_with size v above m below m) s line backed
      → Plays size (requests.StandsFor backed (its line m)) (requests.StandsFor backed (its line (record m { demands = rest }))) events)
      → Plays size (MembersStand size (chain_with size v above m below m)) (MembersStand size (chain_with size v above m below (record m { demands = rest }))) events
  only_demands events clients = changes_requests size v above m below m.node.found m.node.commit m.node.waiting rest events
      (λ s line backed stands. record {
        numbers = λ last all. all;
        raised = λ all. all;
        tokens = λ next before. before;
        clients = clients line backed s stands;
      })

  -- it is taken, and its client hears nothing
  pub drops : Plays size (MembersStand size (chain_with size v above m below m)) (MembersStand size (chain_with size v above m below (record m { demands = rest }))) []
  drops = only_demands [] (λ line backed s stands. shows_stay size backed (its line m) (its line (record m { demands = rest }))
      (drops_demand size backed (its line m) d (flat_map (λ x. x.demands) above) (rest ++ flat_map (λ x. x.demands) below) (split line)))

  -- it is refused
  pub refuses : (error : ErrorCode) → Plays size (MembersStand size (chain_with size v above m below m)) (MembersStand size (chain_with size v above m below (record m { demands = rest })))
      (Answered d.session d.cookie (Failed error) ∷ [])
  refuses error = only_demands (Answered d.session d.cookie (Failed error) ∷ []) (λ line backed s stands.
      refuses_demand size backed (its line m) d (flat_map (λ x. x.demands) above) (rest ++ flat_map (λ x. x.demands) below) (split line) error)

  -- a READ of a clean range is answered at the member's known commit: no later write reaches it
  pub reads_clean : (offset len : ℕ) → m.node.stopped ≡ None → d.request ≡ Read offset len → IsClean m.node.table offset len m.node.known → length m.volume ≡ size → All (λ k. Fits size k.write) m.node.table.kept
      → Plays size (MembersStand size (chain_with size v above m below m)) (MembersStand size (chain_with size v above m below (record m { demands = rest })))
      (Answered d.session d.cookie (Done (take len (drop offset (fold patched m.volume (writes_upto m.node.table m.node.known))))) ∷ [])
  reads_clean offset len runs asked clean sized inside =
      only_demands (Answered d.session d.cookie (Done (take len (drop offset (fold patched m.volume (writes_upto m.node.table m.node.known))))) ∷ []) (λ line backed s stands.
      let reached = reach size v above m below s line backed runs stands in
      let volume = volume_is size v above m below s line backed v.told.front runs stands (omega (arith, reached.within, reached.known)) reached.has in
      let same : take len (drop offset (fold patched m.volume (writes_upto m.node.table v.told.front))) ≡ take len (drop offset (fold patched m.volume (writes_upto m.node.table m.node.known))) =
      clean_range size m.volume m.node.table offset len m.node.known v.told.front sized inside clean reached.within reached.known reached.has in
      let bytes : take len (drop offset (volume_after size (take v.told.front line))) ≡ take len (drop offset (fold patched m.volume (writes_upto m.node.table m.node.known))) =
      ap (λ (vol : List ℕ). take len (drop offset vol)) (sym volume) ∙ same in
      subst (λ (bs : List ℕ). Plays size (requests.StandsFor backed (its line m)) (requests.StandsFor backed (its line (record m { demands = rest }))) (Answered d.session d.cookie (Done bs) ∷ [])) bytes
      (answers_demand size backed (its line m) d (flat_map (λ x. x.demands) above) (rest ++ flat_map (λ x. x.demands) below) (split line) offset len asked))

  -- ---- tokens

  -- what looks at the others' slots finds another than this member's
  pub others_apart : AllPairs (λ slot other. slot ≢ other) (slots_of (above ++ m ∷ below)) → All (λ l. l.slot ≢ m.node.place.slot) (flat_map looked_of above ++ flat_map looked_of below)
  others_apart apart =
      let (before, behind) = pairs_around (λ slot other. slot ≢ other) (map slot_of above) (slot_of m) (map slot_of below) (subst (AllPairs (λ slot other. slot ≢ other)) (map-append slot_of above (m ∷ below)) apart) in
      All-append (λ l. l.slot ≢ m.node.place.slot) (flat_map looked_of above) (flat_map looked_of below) (looked_apart above before) (looked_apart below (λ i x lt same. behind i x lt (sym same)))
    where
      looked_apart : (ms : List Member) → All (λ slot. slot ≢ m.node.place.slot) (map slot_of ms) → All (λ l. l.slot ≢ m.node.place.slot) (flat_map looked_of ms)
      looked_apart [] all = All-nil (λ l. l.slot ≢ m.node.place.slot)
      looked_apart (x ∷ xs) all =
          All-append (λ l. l.slot ≢ m.node.place.slot) (looked_of x) (flat_map looked_of xs) (one x.node.found (All-head (λ slot. slot ≢ m.node.place.slot) (slot_of x) (map slot_of xs) all))
          (looked_apart xs (All-tail (λ slot. slot ≢ m.node.place.slot) (slot_of x) (map slot_of xs) all))
        where
          one : (found : Option Found) → slot_of x ≢ m.node.place.slot → All (λ l. l.slot ≢ m.node.place.slot) (looked_by x.node.place.slot found)
          one None apart = All-nil (λ l. l.slot ≢ m.node.place.slot)
          one (Some (founds.Raised front)) apart = All-nil (λ l. l.slot ≢ m.node.place.slot)
          one (Some (founds.Looked front)) apart = All-cons (λ l. l.slot ≢ m.node.place.slot) (record { slot = x.node.place.slot; front = front.number }) [] apart (All-nil (λ l. l.slot ≢ m.node.place.slot))

  -- one token more waits behind the others of the member
  pub one_more : (w : Waiting) → flat_map tokens_of above ++ (owing_at m.node (m.node.waiting ++ w ∷ []) ++ flat_map tokens_of below)
      ≡ (flat_map tokens_of above ++ owing_at m.node m.node.waiting) ++ at_member m.node w ∷ flat_map tokens_of below
  one_more w =
      ap (λ (os : List Owing). flat_map tokens_of above ++ (os ++ flat_map tokens_of below)) (map_push (at_member m.node) m.node.waiting w)
      ∙ ap (λ (os : List Owing). flat_map tokens_of above ++ os) (append_assoc (owing_at m.node m.node.waiting) (at_member m.node w ∷ []) (flat_map tokens_of below))
      ∙ sym (append_assoc (flat_map tokens_of above) (owing_at m.node m.node.waiting) (at_member m.node w ∷ flat_map tokens_of below))

  pub tokens_as_they_are : (line : List Kept) → (its line m).tokens ≡ (flat_map tokens_of above ++ owing_at m.node m.node.waiting) ++ flat_map tokens_of below
  tokens_as_they_are line = sym (append_assoc (flat_map tokens_of above) (owing_at m.node m.node.waiting) (flat_map tokens_of below))

  -- a token that waits for no write breaks no order of tickets
  ticketless : (w : Waiting) → ticket_of w ≡ None → (next : Origin) → All (IsTokenBefore next) (owing_at m.node m.node.waiting) → All (IsTokenBefore next) (owing_at m.node (m.node.waiting ++ w ∷ []))
  ticketless w none next before =
      subst (λ (os : List Owing). All (IsTokenBefore next) os) (sym (map_push (at_member m.node) m.node.waiting w))
      (All-append (IsTokenBefore next) (owing_at m.node m.node.waiting) (at_member m.node w ∷ []) before
      (All-cons (IsTokenBefore next) (at_member m.node w) [] (λ ticket is. let no : None ≡ Some ticket = sym none ∙ is in absurd cc) (All-nil (IsTokenBefore next))))

  -- a READ or a FLUSH waits for a front
  waits : (w : Waiting) → ticket_of w ≡ None → ((last : ℕ) → IsApplied last w)
      → ((line : List Kept) (backed : ℕ) → All (λ l. l.slot ≢ m.node.place.slot) (flat_map looked_of above ++ flat_map looked_of below)
      → Stays backed (its_idle line) (record (its_idle line) {
        demands = flat_map (λ x. x.demands) above ++ (rest ++ flat_map (λ x. x.demands) below);
        tokens = (flat_map tokens_of above ++ owing_at m.node m.node.waiting) ++ at_member m.node w ∷ flat_map tokens_of below;
      }))
      → Plays size (MembersStand size (chain_with size v above m below m))
      (MembersStand size (chain_with size v above m below (record m { node = record m.node { waiting = m.node.waiting ++ w ∷ []; found = None }; demands = rest }))) []
  waits w none numberless takes = changes_requests size v above m below None m.node.commit (m.node.waiting ++ w ∷ []) rest []
      (λ s line backed stands. record {
        numbers = λ last all. applied_more last m.node.waiting w (numberless last) all;
        raised = λ all. All-nil (λ f. f ≤ v.told.front);
        tokens = λ next before. ticketless w none next before;
        clients = shows_stay size backed (its line m) (its line (record m { node = record m.node { waiting = m.node.waiting ++ w ∷ []; found = None }; demands = rest }))
            (λ t is. subst (λ (os : List Owing). requests.StandsFor backed (record (its_idle line) { demands = flat_map (λ x. x.demands) above ++ (rest ++ flat_map (λ x. x.demands) below); tokens = os }) t) (sym (one_more w))
            (takes line backed (others_apart stands.slots) t (it_drops_found size v above m below line backed t is)));
      })

  -- a READ of a range that isn't clean waits
  pub asks_for : (offset len : ℕ) (token : Owed) → d.request ≡ Read offset len → token.session ≡ d.session → token.cookie ≡ d.cookie
      → Plays size (MembersStand size (chain_with size v above m below m)) (MembersStand size (chain_with size v above m below (record m { node = (read_asked offset len token m.node).node; demands = rest }))) []
  asks_for offset len token asked session cookie = waits (tokens.Read offset len token) refl (λ last. tt) (λ line backed apart.
      asks size backed (its_idle line) d (flat_map (λ x. x.demands) above) (rest ++ flat_map (λ x. x.demands) below) (split line) offset len m.node.place.slot m.node.incarnation token
      (flat_map tokens_of above ++ owing_at m.node m.node.waiting) (flat_map tokens_of below) asked session cookie (tokens_as_they_are line) apart)

  -- a FLUSH waits
  pub flushes_for : (token : OwedAt) → IsFlush d.request → token.session ≡ d.session → token.cookie ≡ d.cookie → token.number ≡ None
      → Plays size (MembersStand size (chain_with size v above m below m)) (MembersStand size (chain_with size v above m below (record m { node = (flush token m.node).node; demands = rest }))) []
  flushes_for token asked session cookie unbound = waits (tokens.Flush token) refl (λ last. tt) (λ line backed apart.
      flushes size backed (its_idle line) d (flat_map (λ x. x.demands) above) (rest ++ flat_map (λ x. x.demands) below) (split line) m.node.place.slot m.node.incarnation token
      (flat_map tokens_of above ++ owing_at m.node m.node.waiting) (flat_map tokens_of below) asked session cookie unbound (tokens_as_they_are line) apart)
