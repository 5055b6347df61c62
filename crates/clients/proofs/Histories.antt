-- How sessions' histories go on with a call to one client: lemmas.
use Rattle.std.proofs.Common.{◌≡◌, ℕ, Bool, true, false, eqb, Option, Some, None, List, [], ◌∷◌, ◌++◌, length, set, get_or, refl, sym, ◌∙◌, ap, subst, inl, inr, arith}
use Rattle.std.specs.Prelude.{◌≢◌, ◌==◌, All, if◌then◌else◌, slice_get}
use Rattle.std.specs.List.{AllPairs}
use Rattle.std.proofs.lemmas.Bool.{cases_eq, cond-true, cond-false, eq-eqb, ne_eqb}
use Rattle.std.proofs.lemmas.Grind.{get_or-set_at}
use Rattle.std.proofs.lemmas.List.{append-nil, get_or-set_other, length-set}
use Rattle.std.proofs.lemmas.List.Elements.{All-push}
use Rattle.std.proofs.lemmas.Option.{get_or_from_slice_get, slice_get_within}
use Rattle.board.specs.Seats.{BoardId}
use Rattle.flush_barrier.specs.Reply.{GivenReply}
use Rattle.flush_barrier.specs.declared.error_code.ErrorCode.{ErrorCode}
use Rattle.flush_barrier.specs.declared.session_id.SessionId.{SessionId}
use Rattle.nbd_session.specs.Begun.{greeted}
use Rattle.nbd_session.specs.Demand.{Asked}
use Rattle.nbd_session.specs.Lawful.{History, IsLawful, HasHistory, fed_and_asked, handed_out, nothing, replied, sent_by}
use Rattle.nbd_session.specs.Laws.{HistoriesAreLawful, OutputIsLawful, RepliesAreLawful}
use Rattle.nbd_session.specs.Progress.{is_over}
use Rattle.nbd_session.specs.Replies.{WireReply, answered, is_owed, reply_seen, seen_with}
use Rattle.nbd_session.specs.Session.{State}
use Rattle.nbd_session.specs.declared.answer.Export.{Export}
use Rattle.nbd_session.specs.declared.phase.Phase.{Phase}
use Rattle.nbd_session.specs.declared.phase.Phase.TheVariants.{Over}
use Rattle.world_model.specs.Chain.{outcome_of, reply_event}
use Rattle.world_model.specs.Event.{ClientEvent}
use Rattle.clients.specs.Clients.{Client, Extends, GoOn, Goes, no_one, of_session, on_the_wire, place_of, replies_in, reply_by}
use Rattle.clients.proofs.Places.{IsApart, apart_at, ids_stay, none_before, place_by_ids, place_is, same_id}

-- ---- one session

pub goes_lawful : HistoriesAreLawful → (s : State) (h : History) → Goes s h → IsLawful s.export h.fed (sent_by s h) h.asked h.replies
goes_lawful laws s h (inl stands) = laws s h stands
goes_lawful laws s h (inr (over, is_lawful)) = is_lawful

over_answered : (s : State) (h : History) (reply : WireReply) → s.phase ≡ Over → IsLawful s.export h.fed (sent_by s h) h.asked h.replies
    → Goes (answered s reply) (replied s h reply)
over_answered s h reply over is_lawful =
    let ended_one : State = record s { phase = Over } in
    let same : s ≡ ended_one = ap (λ (phase : Phase). let x : State = record s { phase = phase } in x) over in
    let there : Goes (answered ended_one reply) (replied ended_one h reply) = inr (refl, is_lawful) in
    subst (λ (x : State). Goes (answered x reply) (replied x h reply)) (sym same) there

pub goes_answered : RepliesAreLawful → (s : State) (h : History) (reply : WireReply) → Goes s h
    → Goes (answered s reply) (replied s h reply)
goes_answered laws s h reply (inl stands) = inl (laws s h reply stands)
goes_answered laws s h reply (inr (over, is_lawful)) = over_answered s h reply over is_lawful

pub goes_ended : HistoriesAreLawful → (s : State) (h : History) → Goes s h → Goes (record s { phase = Over; kept = [] }) h
goes_ended laws s h goes = inr (refl, goes_lawful laws s h goes)

pub goes_fed : (s next : State) (h later : History) → is_over s.phase ≡ false → (HasHistory s h → HasHistory next later) → Goes s h
    → Goes next later
goes_fed s next h later still stays (inl stands) = inl (stays stands)
goes_fed s next h later still stays (inr (over, is_lawful)) = let is : is_over s.phase ≡ true = ap is_over over in absurd cc

pub goes_handed : OutputIsLawful → (s : State) (h : History) → Goes s h → Goes (record s { output = [] }) (handed_out s h)
goes_handed laws s h (inl stands) = inl (laws s h stands)
goes_handed laws s h (inr (over, is_lawful)) =
    inr (over, subst (λ (l : List ℕ). IsLawful s.export h.fed l h.asked h.replies) (sym (append-nil (h.handed ++ s.output))) is_lawful)

-- ---- by how much a history goes on

pub extends_none : (h : History) → Extends h h [] [] [] []
extends_none h = record {
  fed = sym (append-nil h.fed);
  handed = sym (append-nil h.handed);
  asked = sym (append-nil h.asked);
  replies = sym (append-nil h.replies);
}

pub extends_as : (h later other : History) {f g o p : List ℕ} {a b : List Asked} {r q : List WireReply} → Extends h later f o a r
    → other ≡ later → g ≡ f → p ≡ o → b ≡ a → q ≡ r → Extends h other g p b q
extends_as h later other extends same fed handed asked replies = record {
  fed = ap (λ (x : History). x.fed) same ∙ extends.fed ∙ ap (λ (l : List ℕ). h.fed ++ l) (sym fed);
  handed = ap (λ (x : History). x.handed) same ∙ extends.handed ∙ ap (λ (l : List ℕ). h.handed ++ l) (sym handed);
  asked = ap (λ (x : History). x.asked) same ∙ extends.asked ∙ ap (λ (l : List Asked). h.asked ++ l) (sym asked);
  replies = ap (λ (x : History). x.replies) same ∙ extends.replies ∙ ap (λ (l : List WireReply). h.replies ++ l) (sym replies);
}

pub extends_fed : (h : History) (piece : List ℕ) (asked : List Asked) → Extends h (fed_and_asked h piece asked) piece [] asked []
extends_fed h piece asked = record { fed = refl; handed = sym (append-nil h.handed); asked = refl; replies = sym (append-nil h.replies) }

pub extends_handed : (s : State) (h : History) → Extends h (handed_out s h) [] s.output [] []
extends_handed s h = record {
  fed = sym (append-nil h.fed);
  handed = refl;
  asked = sym (append-nil h.asked);
  replies = sym (append-nil h.replies);
}

extends_replied : (owed : Bool) (h : History) (reply : WireReply)
    → Extends h (if owed then record h { replies = h.replies ++ reply ∷ [] } else h) [] [] [] (if owed then reply ∷ [] else [])
extends_replied true h reply = record {
  fed = sym (append-nil h.fed);
  handed = sym (append-nil h.handed);
  asked = sym (append-nil h.asked);
  replies = refl;
}
extends_replied false h reply = extends_none h

-- ---- what a reply is for its session, and for the others

seen_so : (cookie : ℕ) (payload : List ℕ) (error : Option ErrorCode)
    → on_the_wire cookie (outcome_of error payload) ≡ seen_with cookie payload error
seen_so cookie payload None = refl
seen_so cookie payload (Some error) = refl

replies_own : (reply : GivenReply) → replies_in reply.session (reply_event reply ∷ []) ≡ reply_seen reply ∷ []
replies_own reply =
    let seen : WireReply = on_the_wire reply.cookie (outcome_of reply.error reply.payload) in
    append-nil (reply_by reply.session (reply_event reply))
    ∙ cond-true (eqb reply.session.0 reply.session.0) (seen ∷ []) [] (eq-eqb reply.session.0 reply.session.0 refl)
    ∙ ap (λ (one : WireReply). one ∷ []) (seen_so reply.cookie reply.payload reply.error)

replies_past : (reply : GivenReply) (other : SessionId) → reply.session.0 ≢ other.0 → replies_in other (reply_event reply ∷ []) ≡ []
replies_past reply other differs =
    let seen : WireReply = on_the_wire reply.cookie (outcome_of reply.error reply.payload) in
    append-nil (reply_by other (reply_event reply))
    ∙ cond-false (eqb reply.session.0 other.0) (seen ∷ []) [] (ne_eqb reply.session.0 other.0 differs)

pub replies_own_if : (owed : Bool) (reply : GivenReply)
    → replies_in reply.session (if owed then reply_event reply ∷ [] else []) ≡ (if owed then reply_seen reply ∷ [] else [])
replies_own_if true reply = replies_own reply
replies_own_if false reply = refl

pub replies_past_if : (owed : Bool) (reply : GivenReply) (other : SessionId) → reply.session.0 ≢ other.0
    → replies_in other (if owed then reply_event reply ∷ [] else []) ≡ []
replies_past_if true reply other differs = replies_past reply other differs
replies_past_if false reply other differs = refl

pub extends_answered : (s : State) (h : History) (reply : GivenReply)
    → Extends h (replied s h (reply_seen reply)) [] [] []
    (replies_in reply.session (if is_owed s.phase s.in_flight then reply_event reply ∷ [] else []))
extends_answered s h reply =
    let owed : Bool = is_owed s.phase s.in_flight in
    extends_as h (replied s h (reply_seen reply)) (replied s h (reply_seen reply))
    (extends_replied owed h (reply_seen reply)) refl refl refl refl (replies_own_if owed reply)

-- ---- all sessions

-- the history of this session becomes so
abbrev updated : SessionId → History → (SessionId → History) → SessionId → History
updated id x h other = if id.0 == other.0 then x else h other

updated_at : (id other : SessionId) (x : History) (h : SessionId → History) → id.0 ≡ other.0 → updated id x h other ≡ x
updated_at id other x h same = cond-true (eqb id.0 other.0) x (h other) (eq-eqb id.0 other.0 same)

updated_past : (id other : SessionId) (x : History) (h : SessionId → History) → id.0 ≢ other.0 → updated id x h other ≡ h other
updated_past id other x h differs = cond-false (eqb id.0 other.0) x (h other) (ne_eqb id.0 other.0 differs)

abbrev Going : (SessionId → History) → Client → Type 0
Going h client = Goes client.session (h client.session.id)

-- for this session nothing goes on
pub record NothingFor (other : SessionId) (more_fed more_handed : SessionId → List ℕ) (more_asked : SessionId → List Asked) (events : List ClientEvent) : Type 0 where
  pub fed : more_fed other ≡ []
  pub handed : more_handed other ≡ []
  pub asked : more_asked other ≡ []
  pub replies : replies_in other events ≡ []

-- a session's history went on so, and the session has it
pub record Went (after : State) (h : History) (fed handed : List ℕ) (asked : List Asked) (replies : List WireReply) : Type 0 where
  pub later : History
  pub goes : Goes after later
  pub by : Extends h later fed handed asked replies

module _ (cs : List Client) (apart : AllPairs IsApart cs) (id : SessionId) (place : ℕ) (before after : Client)
    (there : place_of id cs ≡ Some place) (here : slice_get cs place ≡ Some before) (same : after.session.id ≡ before.session.id) where
  is : before.session.id ≡ id
  is = place_is id cs place before there here

  going_set : (h : SessionId → History) (x : History) → Goes after.session x → All (Going h) cs
      → All (Going (updated id x h)) (set cs place after)
  going_set h x goes going k d within =
      let long : length (set cs place after) ≡ length cs = length-set cs place after in
      elim (cases_eq k place) [
        | inl at ↦ subst (Going (updated id x h)) (sym (get_or-set_at cs place k after d at (slice_get_within cs place before here)))
            (subst (Goes after.session) (sym (updated_at id after.session.id x h (ap (λ (i : SessionId). i.0) (sym (same ∙ is))))) goes)
        | inr past ↦
            let differs : id.0 ≢ (get_or cs k d).session.id.0 =
            subst (λ (i : SessionId). i.0 ≢ (get_or cs k d).session.id.0) is
            (apart_at cs place k before d apart here past (omega arith)) in
            subst (Going (updated id x h)) (sym (get_or-set_other cs place k after d past))
            (subst (Goes (get_or cs k d).session) (sym (updated_past id (get_or cs k d).session.id x h differs)) (going k d (omega arith)))
      ]

  none_set : (h : SessionId → History) (x : History) → ((other : SessionId) → place_of other cs ≡ None → h other ≡ nothing)
      → (other : SessionId) → place_of other (set cs place after) ≡ None → updated id x h other ≡ nothing
  none_set h x none other gone =
      let before_gone : place_of other cs ≡ None =
      place_by_ids other cs (set cs place after) (sym (ids_stay cs place before after here same)) ∙ gone in
      elim (cases_eq id.0 other.0) [
        | inl equal ↦ let some : Some place ≡ None = sym there ∙ ap (λ (i : SessionId). place_of i cs) (same_id id other equal)
            ∙ before_gone in absurd cc
        | inr differs ↦ updated_past id other x h differs ∙ none other before_gone
      ]

  pub go_on_at : (fed handed : SessionId → List ℕ) (asked : SessionId → List Asked) (events : List ClientEvent)
      → ((h : History) → Goes before.session h → Went after.session h (fed id) (handed id) (asked id) (replies_in id events))
      → ((other : SessionId) → id.0 ≢ other.0 → NothingFor other fed handed asked events)
      → GoOn cs (set cs place after) fed handed asked events
  go_on_at fed handed asked events goes_on others = λ h go.
      let goes : Goes before.session (h id) = subst (λ (i : SessionId). Goes before.session (h i)) is
      (subst (Going h) (get_or_from_slice_get cs place before before here)
      (go.going place before (slice_get_within cs place before here))) in
      let went = goes_on (h id) goes in
      let later : SessionId → History = updated id went.later h in (
        later,
        record { going = going_set h went.later went.goes go.going; none = none_set h went.later go.none },
        λ other. elim (cases_eq id.0 other.0) [
          | inl equal ↦ subst (λ (i : SessionId). Extends (h i) (later i) (fed i) (handed i) (asked i) (replies_in i events))
              (same_id id other equal)
              (extends_as (h id) went.later (later id) went.by (updated_at id id went.later h refl) refl refl refl refl)
          | inr differs ↦
              let none = others other differs in
              extends_as (h other) (h other) (later other) (extends_none (h other))
              (updated_past id other went.later h differs) none.fed none.handed none.asked none.replies
        ],
      )

-- nothing happened
pub go_on_still : (cs : List Client) → GoOn cs cs no_one no_one no_one []
go_on_still cs = λ h go. (h, go, λ id. extends_none (h id))

-- a session began
pub go_on_begun : (cs : List Client) (client : Client) → place_of client.session.id cs ≡ None → Goes client.session nothing
    → GoOn cs (cs ++ client ∷ []) no_one no_one no_one []
go_on_begun cs client none goes = λ h go. (
  h,
  record {
    going = All-push (Going h) cs client go.going (subst (Goes client.session) (sym (go.none client.session.id none)) goes);
    none = λ id gone. go.none id (none_before id cs client gone);
  },
  λ id. extends_none (h id),
)

-- what a session that begins has
pub begun_goes : (board : BoardId) (id : SessionId) (export : Export) → Goes (greeted board id export) nothing
begun_goes board id export = inl (refl, refl, record { asked = refl; replies = refl; none_owed = refl })

-- ---- what one call tells

own_of : {A : Type 0} (id other : SessionId) (xs : List A) → id.0 ≢ other.0 → of_session id xs other ≡ []
own_of id other xs differs = cond-false (eqb id.0 other.0) xs [] (ne_eqb id.0 other.0 differs)

of_own : {A : Type 0} (id : SessionId) (xs : List A) → of_session id xs id ≡ xs
of_own id xs = cond-true (eqb id.0 id.0) xs [] (eq-eqb id.0 id.0 refl)

of_none : {A : Type 0} (id other : SessionId) → of_session {A = A} id [] other ≡ []
of_none id other = elim (cases_eq id.0 other.0) [
  | inl same ↦ cond-true (eqb id.0 other.0) [] [] (eq-eqb id.0 other.0 same)
  | inr differs ↦ own_of id other [] differs
]

-- nothing was handed out
pub go_on_none : (cs : List Client) (id : SessionId) → GoOn cs cs no_one (of_session id []) no_one []
go_on_none cs id =
    λ h go. (h, go, λ other. extends_as (h other) (h other) (h other) (extends_none (h other)) refl refl (of_none id other) refl refl)

module _ (cs : List Client) (apart : AllPairs IsApart cs) (id : SessionId) (place : ℕ) (before after : Client)
    (there : place_of id cs ≡ Some place) (here : slice_get cs place ≡ Some before) (same : after.session.id ≡ before.session.id) where
  pub go_on_fed : (piece : List ℕ) (asked : List Asked)
      → ((h : History) → Goes before.session h → Goes after.session (fed_and_asked h piece asked))
      → GoOn cs (set cs place after) (of_session id piece) no_one (of_session id asked) []
  go_on_fed piece asked goes = go_on_at cs apart id place before after there here same (of_session id piece) no_one (of_session id asked) []
      (λ h had. record {
        later = fed_and_asked h piece asked;
        goes = goes h had;
        by =
            extends_as h (fed_and_asked h piece asked) (fed_and_asked h piece asked) (extends_fed h piece asked) refl (of_own id piece) refl
            (of_own id asked) refl;
      })
      (λ other differs. record { fed = own_of id other piece differs; handed = refl; asked = own_of id other asked differs; replies = refl })

  pub go_on_handed : OutputIsLawful → after.session ≡ record before.session { output = [] }
      → GoOn cs (set cs place after) no_one (of_session id before.session.output) no_one []
  go_on_handed laws are = go_on_at cs apart id place before after there here same no_one (of_session id before.session.output) no_one []
      (λ h had. record {
        later = handed_out before.session h;
        goes = subst (λ (s : State). Goes s (handed_out before.session h)) (sym are) (goes_handed laws before.session h had);
        by =
            extends_as h (handed_out before.session h) (handed_out before.session h) (extends_handed before.session h) refl refl
            (of_own id before.session.output) refl refl;
      })
      (λ other differs. record { fed = refl; handed = own_of id other before.session.output differs; asked = refl; replies = refl })

  -- the session has ended
  pub go_on_ended : HistoriesAreLawful → after.session ≡ record before.session { phase = Over; kept = [] }
      → GoOn cs (set cs place after) no_one no_one no_one []
  go_on_ended laws are = go_on_at cs apart id place before after there here same no_one no_one no_one []
      (λ h had. record {
        later = h;
        goes = subst (λ (s : State). Goes s h) (sym are)
            (goes_ended laws before.session h had);
        by = extends_none h;
      })
      (λ other differs. record { fed = refl; handed = refl; asked = refl; replies = refl })

  pub go_on_answered : RepliesAreLawful → (reply : GivenReply) → reply.session ≡ id
      → after.session ≡ answered before.session (reply_seen reply)
      → GoOn cs (set cs place after) no_one no_one no_one
      (if is_owed before.session.phase before.session.in_flight then reply_event reply ∷ [] else [])
  go_on_answered laws reply own are =
      let owed : Bool = is_owed before.session.phase before.session.in_flight in
      let events : List ClientEvent = if owed then reply_event reply ∷ [] else [] in
      go_on_at cs apart id place before after there here same no_one no_one no_one events
      (λ h had. record {
        later = replied before.session h (reply_seen reply);
        goes =
            subst (λ (s : State). Goes s (replied before.session h (reply_seen reply))) (sym are)
            (goes_answered laws before.session h (reply_seen reply) had);
        by =
            subst (λ (i : SessionId). Extends h (replied before.session h (reply_seen reply)) [] [] [] (replies_in i events)) own
            (extends_answered before.session h reply);
      })
      (λ other differs. record {
        fed = refl;
        handed = refl;
        asked = refl;
        replies = replies_past_if owed reply other
            (subst (λ (i : SessionId). i.0 ≢ other.0) (sym own) differs);
      })
