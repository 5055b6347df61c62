-- What the sessions are without a member that is gone: lemmas.
use Rattle.std.proofs.Common.{◌≡◌, ℕ, ◌-◌, Bool, true, false, List, [], ◌∷◌, map, refl, sym, ◌∙◌, ap, subst, inl, inr}
use Rattle.std.specs.Option.{option_map}
use Rattle.std.specs.Prelude.{◌⊎◌, ◌==◌, if◌then◌else◌, nat_lt}
use Rattle.std.proofs.lemmas.List.Elements.{All-map, All-weaker}
use Rattle.std.proofs.lemmas.Option.{slice_get-map}
use Rattle.board.specs.Seats.{BoardId}
use Rattle.flush_barrier.specs.declared.session_id.SessionId.{SessionId}
use Rattle.nbd_session.specs.Laws.{HistoriesAreLawful}
use Rattle.nbd_session.specs.Progress.{is_over}
use Rattle.nbd_session.specs.Session.{State}
use Rattle.nbd_session.specs.declared.answer.Export.{Export}
use Rattle.nbd_session.specs.declared.phase.Phase.TheVariants.{Over}
use Rattle.clients.specs.Calls.{StayOver, ended, without}
use Rattle.clients.specs.Clients.{AreSessions, Client, GoOn, Goes, IsOf, Sessions, no_one}
use Rattle.clients.proofs.Histories.{extends_none, goes_ended}
use Rattle.clients.proofs.Places.{apart_by_ids, id_of, place_by_ids}

-- ---- one client

-- the session is as it was, or has ended
abbrev StaysOrEnds : State → State → Type 0
StaysOrEnds before after = (after ≡ before) ⊎ (after ≡ record before { phase = Over; kept = [] })

-- whatever the tests say, the session is as it was, or has ended
by_tests : (here over behind : Bool) (client : Client)
    → StaysOrEnds client.session (if here then record (if over then client else ended client) { at = 0 }
    else (if behind then record client { at = client.at - 1 } else client)).session
by_tests true true behind client = inl refl
by_tests true false behind client = inr refl
by_tests false over true client = inl refl
by_tests false over false client = inl refl

-- what is so of the session as it was, and of it once it has ended, is so of it without the member
session_without : (Is : State → Type 0) (place : ℕ) (client : Client)
    → Is client.session → Is (record client.session { phase = Over; kept = [] }) → Is (without place client).session
session_without Is place client still over =
    elim (by_tests (client.at == place) (is_over client.session.phase) (nat_lt place client.at) client) [
      | inl same ↦ subst Is (sym same) still
      | inr has_ended ↦ subst Is (sym has_ended) over
    ]

-- the session keeps its number
same_id_without : (place : ℕ) (client : Client) → id_of (without place client) ≡ id_of client
same_id_without place client = session_without (λ (s : State). s.id ≡ id_of client) place client refl refl

-- the session stays one of the board, with the export
own_without : (board : BoardId) (export : Export) (place : ℕ) (client : Client) → IsOf board export client
    → IsOf board export (without place client)
own_without board export place client own = record {
  own_board = session_without (λ (s : State). s.board ≡ board) place client own.own_board own.own_board;
  own_export = session_without (λ (s : State). s.export ≡ export) place client own.own_export own.own_export;
}

-- ---- all clients

-- the clients keep their numbers, in the same order
pub ids_without : (place : ℕ) (cs : List Client) → map id_of (map (without place) cs) ≡ map id_of cs
ids_without place [] = refl
ids_without place (c ∷ cs) =
    ap (λ (id : SessionId). id ∷ map id_of (map (without place) cs)) (same_id_without place c)
    ∙ ap (λ (ids : List SessionId). id_of c ∷ ids) (ids_without place cs)

-- the sessions stay sessions of the board, no two of one number
pub sessions_without : (place : ℕ) (old : Sessions) → AreSessions old
    → AreSessions (record old { clients = map (without place) old.clients })
sessions_without place old are = record {
  apart = apart_by_ids (map (without place) old.clients) old.clients (ids_without place old.clients) are.apart;
  own = All-map (IsOf old.board old.export) (without place) old.clients
      (All-weaker (IsOf old.board old.export) (λ client. IsOf old.board old.export (without place client))
      (own_without old.board old.export place) old.clients are.own);
}

-- who takes no more input takes none without the member
pub stay_over_without : (place : ℕ) (cs : List Client) → StayOver cs (map (without place) cs)
stay_over_without place cs id has = record {
  place = has.place;
  client = without place has.client;
  there = place_by_ids id (map (without place) cs) cs (ids_without place cs) ∙ has.there;
  here = slice_get-map (without place) cs has.place ∙ ap (option_map (without place)) has.here;
  is = session_without (λ (s : State). is_over s.phase ≡ true) place has.client has.is refl;
}

-- each session has the history that it had
pub go_on_without : HistoriesAreLawful → (place : ℕ) (cs : List Client) → GoOn cs (map (without place) cs) no_one no_one no_one []
go_on_without laws place cs = λ h go. (
  h,
  record {
    going =
        All-map (λ client. Goes client.session (h client.session.id)) (without place) cs
        (All-weaker (λ client. Goes client.session (h client.session.id))
        (λ client. Goes (without place client).session (h (without place client).session.id))
        (λ client goes. session_without (λ (s : State). Goes s (h s.id)) place client goes
        (goes_ended laws client.session (h client.session.id) goes))
        cs go.going);
    none = λ id gone. go.none id (place_by_ids id cs (map (without place) cs) (sym (ids_without place cs)) ∙ gone);
  },
  λ id. extends_none (h id),
)
