-- A member takes a READ.
use Rattle.std.proofs.Common.{◌≡◌, ◌⊎◌, ℕ, ◌*◌, ◌≤◌, List, [], ◌∷◌, refl, ap, sym, subst, ◌∙◌, inl, inr}
use Rattle.std.specs.Prelude.{All, IfSome, None, Some, drop, fold, slice_get, slice_set, take}
use Rattle.disk_model.specs.Disk.{LeavesOnly}
use Rattle.flush_barrier.specs.Owed.{Owed}
use Rattle.flush_barrier.specs.Reply.{GivenReply}
use Rattle.local_store.specs.About.{About, meaning_with}
use Rattle.local_store.specs.Meaning.{Means}
use Rattle.version_table.specs.Held.{IsClean, writes_upto}
use Rattle.volume.specs.Writes.{Fits, patched}
use Rattle.volume.specs.declared.geometry.Geometry.{Geometry}
use Rattle.chain_core.specs.Node.{IsRefusedBy, IsStep, Seen, size_of}
use Rattle.chain_core.specs.Reads.{IsStepOver}
use Rattle.chain_core.specs.Stays.{clean_or_dirty}
use Rattle.chain_core.specs.declared.refusal.Refusal.{Refusal}
use Rattle.chain_core.specs.declared.refusal.Refusal.TheVariants as refusals
use Rattle.chain_steps.specs.Node.{NodeState, Out, Stepped}
use Rattle.chain_steps.specs.Steps.{range_of, read_asked, volume_at}
use Rattle.chain_steps.specs.Waiting.{reply_with}
use Rattle.chain_steps.specs.declared.cause.Cause.TheVariants.{Device}
use Rattle.chain_steps.specs.declared.waiting.Waiting.TheVariants as waits
use Rattle.world_model.specs.Chain.{ArePutOut}
use Rattle.world_model.specs.Event.{Answered, ClientEvent, Done}
use Rattle.world_model.specs.Requests.{Held}
use Rattle.chain_model.specs.Life.{Answer, Ask, Drop, Takes, Taking}
use Rattle.chain_model.specs.View.{Member, View}
use Rattle.chain.specs.Asking.{GoesTaking, HasRead, IsUnreadAt, ReadsSo, read_by}
use Rattle.chain.specs.Chain.{Chained, Goes, IsFormed, Shows, bytes_of}
use Rattle.chain.specs.Commits.{LeavesAt, MeansOld}
use Rattle.chain.specs.Member.{IsLeft, IsShown, Linked, fronts_of, member_of, musters_of, receipts_of}
use Rattle.chain.proofs.AskingSteps.{runs_so, takes_at, takes_by}
use Rattle.chain.proofs.CommitSteps.{Remains, Works, disk_told, formed_called, is_old, left_then, rests_leaves, runs_leaves, shown_over, with_node, works_formed, works_lead, works_leaves}
use Rattle.chain.proofs.Causes.{device_is_one}
use Rattle.chain.proofs.Stepping.{UsesAsBefore, formed_still, in_at, rests, same_then, shown_still}

-- ---- what of the member stays

-- a request that was turned away changed nothing
away_same : {S : Type 0} (stepped : Stepped) (old new : Seen S) (replies : List GivenReply) (refusal : Refusal) → IsRefusedBy ⊥ stepped old new replies refusal → (new ≡ old) × (replies ≡ [])
away_same stepped old new replies refusals.Memory why = (why.1.node, why.1.replies_none)
away_same stepped old new replies refusals.NotMember why = (why.1.node, why.1.replies_none)
away_same stepped old new replies refusals.Stopped (inl why) = (why.1.node, why.1.replies_none)
away_same stepped old new replies refusals.Stopped (inr why) = absurd why.1
away_same stepped old new replies refusals.Full why = absurd why
away_same stepped old new replies refusals.Early why = absurd why
away_same stepped old new replies refusals.Busy why = absurd why

module _ {S : Type 0} (premise : Type 0) (about : S → About) (keeps : S → List ℕ → Type 0) (moment : S → ℕ) (left_since : S → ℕ → List ℕ → Type 0) (offset len : ℕ) where
  -- nor did a READ that was taken
  read_remains : (token : Owed) (old new : Seen S) (out : Out) → ReadsSo premise about keeps moment left_since offset len token old new out → Remains about old new
  read_remains token old new out did = elim (clean_or_dirty old.state.table offset len old.state.known) [
    | inl clean ↦ record { board = ap (λ (n : NodeState). n.board) ((did.at_once clean).node []); place = ap (λ (n : NodeState). n.place) ((did.at_once clean).node []); geometry = ap (λ a. a.geometry) did.tells }
    | inr dirty ↦ record { board = ap (λ n. n.state.board) (did.waits dirty).node; place = ap (λ n. n.state.place) (did.waits dirty).node; geometry = ap (λ a. a.geometry) did.tells }
  ]

module _ {S : Type 0} (premise : Type 0) (about : S → About) (failures : S → ℕ) (keeps : S → List ℕ → Type 0) (moment : S → ℕ) (left_since : S → ℕ → List ℕ → Type 0) (offset len : ℕ)
    (may_leave_now : S → List ℕ → Type 0) (old : Chained S) (at : ℕ) (before after : Linked S) (here : slice_get old.members at ≡ Some before) where
  abbrev pub now : Chained S
  now = record old { members = slice_set old.members at after }

  abbrev IsSo : Linked S → Member → Type 0
  IsSo m shown = IsShown about keeps may_leave_now (bytes_of old) m shown

  module _ (replies : List GivenReply) (refusal : Refusal) (unread : IsUnreadAt premise about failures keeps moment left_since offset len replies refusal before after) where
    -- the store was read, or the device refused
    record Tried : Type 0 where
      works : Works about before after replies
      kept : premise → (volume : List ℕ) → keeps before.node.store volume → after.node.state.stopped ≡ None → keeps after.node.store volume

    tried : ((after ≡ before) × (replies ≡ [])) ⊎ Tried
    tried = elim unread.0 [
      | inl away ↦
          let same = away_same _ before.node after.node replies refusal away in
          inl (unread.1 ∙ ap (λ n. record before { node = n }) same.0, same.1)
      | inr read ↦ inr (elim read [
        | inl vain ↦ record {
          works = record { runs = runs_so before.node.state vain.1; are = unread.1; disk = ap disk_told vain.3.store.tells; outcome = inl (vain.3.state, vain.3.replies_none) };
          kept = λ so volume keep on. vain.3.store.kept so volume keep;
        }
        | inr broken ↦ record {
          works = record {
            runs = runs_so before.node.state broken.1;
            are = unread.1;
            disk = ap disk_told broken.3.failed.broken;
            outcome = inr (inr (Device broken.3.error, device_is_one broken.3.error, broken.3.node, ap (λ (o : Out). o.replies) broken.3.sent));
          };
          kept = λ so volume keep on. let none : Some (Device broken.3.error) ≡ None = ap (λ (n : NodeState). n.stopped) (sym broken.3.node) ∙ on in absurd (cc);
        }
      ])
    ]

    pub unread_formed : IsFormed about old → IsFormed about now
    unread_formed formed = elim tried [
      | inl same ↦ formed_still old at before after here about same.0 formed
      | inr is ↦ works_formed about keeps may_leave_now old at before here after replies is.works formed
    ]

    module _ (so : premise) (counts_now : (store : S) (t : ℕ) (c : List ℕ) → t ≤ moment store → may_leave_now store c → left_since store t c)
        (run : (volume : List ℕ) → keeps before.node.store volume → LeavesOnly moment left_since before.node.store after.node.store (Means (meaning_with (about before.node.store) volume))) where
      pub unread_leaves : ((store : S) (c : List ℕ) → left_since store (moment store) c → may_leave_now store c) → LeavesAt about keeps may_leave_now moment left_since at old now
      unread_leaves only_now = elim tried [
        | inl same ↦ rests_leaves about keeps may_leave_now old at before here moment left_since after same.0 only_now run
        | inr is ↦ works_leaves about keeps may_leave_now old at before here after replies is.works moment left_since (record { kept = is.kept so; run = run })
      ]

      pub unread_goes : (v : View) (events : List ClientEvent) → Shows about keeps may_leave_now old v → ArePutOut replies events
          → (w : View) × Shows about keeps may_leave_now now w × Goes (bytes_of old) v w events
      unread_goes v events shows put_out = elim tried [
        | inl same ↦ rests about keeps may_leave_now old now v events (same_then old at before after here same.0) shows (subst (λ rs. ArePutOut rs events) same.1 put_out)
        | inr is ↦ works_lead about keeps may_leave_now old at before here after replies is.works moment left_since (record { kept = is.kept so; run = run }) v events counts_now shows put_out
      ]

  -- ---- a READ that is taken

  module _ (token : Owed) (replies : List GivenReply) (did : HasRead (ReadsSo premise about keeps moment left_since offset len token) replies before after) where
    pub read_formed : IsFormed about old → IsFormed about now
    read_formed formed = formed_called about old at before here after did.are (read_remains premise about keeps moment left_since offset len token before.node after.node did.out did.did) formed

    module _ (so : premise) (counts_now : (store : S) (t : ℕ) (c : List ℕ) → t ≤ moment store → may_leave_now store c → left_since store t c)
        (run : (volume : List ℕ) → keeps before.node.store volume → LeavesOnly moment left_since before.node.store after.node.store (Means (meaning_with (about before.node.store) volume))) where
      pub read_leaves : LeavesAt about keeps may_leave_now moment left_since at old now
      read_leaves = runs_leaves about keeps may_leave_now old at before here (MeansOld about) (is_old about keeps may_leave_now old at before here) moment left_since after did.runs run

      left : (m : Member) → IsSo before m → (c : List ℕ) → may_leave_now after.node.store c → IsLeft (about before.node.store) m.volume before.node.state c
      left = left_then about keeps may_leave_now old at before here (MeansOld about) (is_old about keeps may_leave_now old at before here) moment left_since after did.runs run counts_now

      uses : UsesAsBefore before after
      uses = record { front = ap (λ l. fronts_of l.front) did.are; muster = ap (λ l. musters_of l.muster) did.are; receipt = ap (λ l. receipts_of l.receipt) did.are }

      module _ (inside : All (λ k. Fits (size_of (about before.node.store)) k.write) before.node.state.table.kept) (formed : IsFormed about old) (v : View) (events : List ClientEvent) (rest : List Held)
          (shows : Shows about keeps may_leave_now old v) (first : IfSome (slice_get v.members at) (λ m. m.demands ≡ read_by token offset len ∷ rest)) (put_out : ArePutOut replies events) where
        abbrev pub GoesOn : Type 0
        GoesOn = (w : View) × Shows about keeps may_leave_now now w × GoesTaking (bytes_of old) at rest v w events

        -- it waits for a front
        asks : IsStep before.node after.node did.out (read_asked offset len token before.node.state) → GoesOn
        asks is =
            let are : after ≡ record before { node = record { store = before.node.store; state = (read_asked offset len token before.node.state).node } } = did.are ∙ ap (λ (n : Seen S). record before { node = n }) is.node in
            let none : events ≡ [] = subst (λ rs. ArePutOut rs events) (sym did.told ∙ ap (λ (o : Out). o.replies) is.sent) put_out in
            takes_at about keeps may_leave_now old at before after here (Ask offset len token) (read_by token offset len) rest v events uses shows first (λ m fits. (
              record m { node = (read_asked offset len token m.node).node; demands = rest },
              shown_still about keeps may_leave_now old before after m _ fits
                  (ap (λ (x : Member). record x { node = (read_asked offset len token x.node).node; demands = rest }) fits.is ∙ sym (ap (λ (l : Linked S). member_of l m.volume rest) are)) refl
                  (ap (λ l. l.node.store) are) (ap (λ l. l.node.state.table) are) (ap (λ l. l.node.state.known) are)
                  (λ runs. sym (ap (λ l. l.node.state.stopped) are) ∙ runs),
              (refl, refl, refl, refl, none),
              refl,
            ))

        -- it is answered at once
        module _ (clean : IsClean before.node.state.table offset len before.node.state.known) where
          is_in_size : All (λ k. Fits (bytes_of old) k.write) before.node.state.table.kept
          is_in_size = subst (λ size. All (λ k. Fits size k.write) before.node.state.table.kept) (ap (λ (g : Geometry). 4096 * g.blocks) (in_at about old at before here formed).sizes) inside

          over : IsStepOver premise (keeps before.node.store) after.node.state did.out (λ volume. record { node = before.node.state; out = record { messages = []; replies = reply_with (range_of (volume_at volume before.node.state before.node.state.known) offset len) None (waits.Read offset len token) ∷ [] } })
          over = did.did.at_once clean

          after_is : after ≡ with_node before after.node.store before.node.state
          after_is = did.are ∙ ap (λ (n : NodeState). with_node before after.node.store n) (over.node [])

          shown_read : (m : Member) → IsSo before m → IsSo after (record m { demands = rest })
          shown_read m fits = subst (λ x. IsSo x (record m { demands = rest })) (sym after_is)
              (shown_over about keeps may_leave_now (bytes_of old) before m fits after.node.store before.node.state (record m { demands = rest }) (ap (λ (x : Member). record x { demands = rest }) fits.is) refl
              (ap disk_told did.did.tells) refl refl (λ on. did.did.kept so m.volume (fits.keeping did.runs)) (left m fits))

          -- with these bytes
          abbrev bytes_read : Member → NodeState → List ℕ
          bytes_read m node = take len (drop offset (fold patched m.volume (writes_upto node.table node.known)))

          answers : (m : Member) → IsSo before m → (taking : Taking) × (g : Member) × IsSo after g × Takes (bytes_of old) taking (read_by token offset len) rest m g events × (g.demands ≡ rest)
          answers m fits = elim told [
            | inl none ↦ (Drop, record m { demands = rest }, shown_read m fits, (refl, none), refl)
            | inr (more, are, nil) ↦ (
              Answer offset len,
              record m { demands = rest },
              shown_read m fits,
              (
                ap (λ (n : NodeState). n.stopped) node_is ∙ did.runs,
                refl,
                subst (λ (n : NodeState). IsClean n.table offset len n.known) (sym node_is) clean,
                fits.whole,
                subst (λ (n : NodeState). All (λ k. Fits (bytes_of old) k.write) n.table.kept) (sym node_is) is_in_size,
                refl,
                are ∙ ap (λ l. Answered token.session token.cookie (Done (bytes_read m before.node.state)) ∷ l) nil
                    ∙ ap (λ (n : NodeState). Answered token.session token.cookie (Done (bytes_read m n)) ∷ []) (sym node_is),
              ),
              refl,
            )
          ]
            where
              node_is : m.node ≡ before.node.state
              node_is = ap (λ (x : Member). x.node) fits.is

              reply : GivenReply
              reply = reply_with (bytes_read m before.node.state) None (waits.Read offset len token)

              told : (events ≡ []) ⊎ ((more : List ClientEvent) × (events ≡ Answered token.session token.cookie (Done (bytes_read m before.node.state)) ∷ more) × (more ≡ []))
              told = subst (λ rs. ArePutOut rs events) (sym did.told ∙ ap (λ (o : Out). o.replies) (over.sent so m.volume (fits.keeping did.runs))) put_out

          answers_at_once : GoesOn
          answers_at_once = takes_by about keeps may_leave_now old at before after here (read_by token offset len) rest v events uses shows first answers

        pub read_goes : GoesOn
        read_goes = elim (clean_or_dirty before.node.state.table offset len before.node.state.known) [
          | inl clean ↦ answers_at_once clean
          | inr dirty ↦ asks (did.did.waits dirty)
        ]
