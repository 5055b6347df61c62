-- What sessions ask of what their clients send, and their places in the model: lemmas, for the crate above too.
use Rattle.std.proofs.Common.{◌≡◌, ℕ, ◌+◌, ◌<◌, Some, List, [], ◌∷◌, ◌++◌, length, set, refl, ap, sym, subst, ◌∙◌, arith}
use Rattle.std.specs.Prelude.{slice_get}
use Rattle.std.specs.List.{insert}
use Rattle.std.proofs.lemmas.List.{length-append, length-map, length-set}
use Rattle.std.proofs.lemmas.List.Edits.{insert_end}
use Rattle.std.proofs.lemmas.List.Elements.{All-push, All-set}
use Rattle.std.proofs.lemmas.Option.{slice_get-get_or, slice_get_within}
use Rattle.world_model.specs.Requests.{Held}
use Rattle.clients.specs.Calls.{AreAtPlaces}
use Rattle.clients.specs.Clients.{Client, Sessions, no_one}
use Rattle.world.specs.World.{AreTakenUp, AskWhatWasSent}

-- nothing was sent and nothing asked
pub none_asked : AskWhatWasSent no_one []
none_asked id = refl

abbrev IsNone : List Held → Type 0
IsNone held = held ≡ []

-- sessions of the same numbers have their places in the model
pub taken_up_still : (old new : Sessions) (kept : List (List Held)) → AreAtPlaces old new → AreTakenUp old.clients kept → AreTakenUp new.clients kept
taken_up_still old new kept places are = record {
  many =
      let before = length-map old.clients (λ c. c.session.id) in
      let after = length-map new.clients (λ c. c.session.id) in
      let same = ap length places.ids in
      let were = are.many in
      omega (arith, before, after, same, were);
  none = are.none;
}

-- and one that begins has one behind the others
pub taken_up_begun : (old : List Client) (client : Client) (kept : List (List Held)) → AreTakenUp old kept → AreTakenUp (old ++ client ∷ []) (insert kept (length old) [])
taken_up_begun old client kept are =
    let behind : insert kept (length old) [] ≡ kept ++ [] ∷ [] = ap (λ (n : ℕ). insert kept n []) (sym are.many) ∙ insert_end kept [] in
    subst (AreTakenUp (old ++ client ∷ [])) (sym behind) (record {
      many = length-append kept ([] ∷ []) ∙ ap (λ (n : ℕ). n + 1) are.many ∙ sym (length-append old (client ∷ []));
      none = All-push IsNone kept [] are.none refl;
    })

-- nothing waits at a session's place
pub none_at : (clients : List Client) (place : ℕ) (client : Client) (kept : List (List Held)) → AreTakenUp clients kept → slice_get clients place ≡ Some client → slice_get kept place ≡ Some []
none_at clients place client kept are here =
    let within : place < length kept = subst (λ (n : ℕ). place < n) (sym are.many) (slice_get_within clients place client here) in
    slice_get-get_or kept place [] within ∙ ap Some (are.none place [] within)

-- nor once it was taken up
pub taken_up_set : (clients : List Client) (place : ℕ) (kept : List (List Held)) → AreTakenUp clients kept → AreTakenUp clients (set kept place [])
taken_up_set clients place kept are = record {
  many = length-set kept place [] ∙ are.many;
  none = All-set IsNone kept place [] refl are.none;
}
