-- What becomes of a member's tokens one after another: lemmas for the crate above.
use Rattle.std.proofs.Common.{◌≡◌, Bool, true, false, ℕ, List, [], ◌∷◌, ◌++◌, map, refl, sym, subst, inl, inr}
use Rattle.std.specs.Prelude.{filter, not}
use Rattle.std.proofs.lemmas.Bool.{cases_Bool}
use Rattle.std.proofs.lemmas.List.{append_assoc}
use Rattle.flush_barrier.specs.Reply.{GivenReply}
use Rattle.chain_steps.specs.declared.waiting.Waiting.{Waiting}
use Rattle.world_model.specs.Chain.{ArePutOut, reply_event}
use Rattle.world_model.specs.Event.{ClientEvent}
use Rattle.world_model.specs.Requests.{Owing, Requests, StandsFor}
use Rattle.world_model.proofs.Runs.{plays_nothing, plays_then}
use Rattle.world_model.proofs.Standing.{Shows, Stays, shows_stay}

module _ (size backed : ℕ) (r : Requests) (tag : Waiting → Owing) where
  -- the world with these tokens
  abbrev pub with_tokens : List Owing → Requests
  with_tokens ts = record r { tokens = ts }

  -- where each change of one token is one that clients don't see, so is that of all
  pub changes_all : (f : Waiting → Waiting) → ((w : Waiting) (first last : List Owing) → Stays backed (with_tokens (first ++ tag w ∷ last)) (with_tokens (first ++ tag (f w) ∷ last)))
      → (ws : List Waiting) (first last : List Owing) → Stays backed (with_tokens (first ++ (map tag ws ++ last))) (with_tokens (first ++ (map tag (map f ws) ++ last)))
  changes_all f one [] first last s stands = stands
  changes_all f one (w ∷ ws) first last s stands =
      let here = one w first (map tag ws ++ last) s stands in
      let there = subst (λ (ts : List Owing). StandsFor backed (with_tokens ts) s) (sym (append_assoc first (tag (f w) ∷ []) (map tag ws ++ last))) here in
      let all = changes_all f one ws (first ++ tag (f w) ∷ []) last s there in
      subst (λ (ts : List Owing). StandsFor backed (with_tokens ts) s) (append_assoc first (tag (f w) ∷ []) (map tag (map f ws) ++ last)) all

  module _ (passes : Waiting → Bool) (reply : Waiting → GivenReply)
      (answers : (w : Waiting) (first last : List Owing) → passes w ≡ true → Shows size backed (with_tokens (first ++ tag w ∷ last)) (with_tokens (first ++ last)) (reply_event (reply w) ∷ []))
      (drops : (w : Waiting) (first last : List Owing) → Stays backed (with_tokens (first ++ tag w ∷ last)) (with_tokens (first ++ last))) where
    -- those that pass are answered, in order, or their sessions put nothing out; the others stay
    pub settles_all : (ws : List Waiting) (first last : List Owing) (events : List ClientEvent) → ArePutOut (map reply (filter passes ws)) events
        → Shows size backed (with_tokens (first ++ (map tag ws ++ last))) (with_tokens (first ++ (map tag (filter (λ w. not (passes w)) ws) ++ last))) events
    settles_all [] first last events none =
        subst (Shows size backed (with_tokens (first ++ last)) (with_tokens (first ++ last))) (sym none) (plays_nothing size (StandsFor backed (with_tokens (first ++ last))))
    settles_all (w ∷ ws) first last events out = elim (cases_Bool (passes w)) [
      | inl here ↦
          subst (λ (vs : List Waiting). Shows size backed (with_tokens (first ++ (tag w ∷ map tag ws ++ last))) (with_tokens (first ++ (map tag vs ++ last))) events) (sym (left_out here))
          (answered here (settles_all ws first last) (subst (λ (vs : List Waiting). ArePutOut (map reply vs) events) (picked here) out))
      | inr stays ↦
          let inner = settles_all ws (first ++ tag w ∷ []) last events (subst (λ (vs : List Waiting). ArePutOut (map reply vs) events) (not_picked stays) out) in
          subst (λ (vs : List Waiting). Shows size backed (with_tokens (first ++ (tag w ∷ map tag ws ++ last))) (with_tokens (first ++ (map tag vs ++ last))) events) (sym (left_in stays))
          (subst (λ (ts : List Owing). Shows size backed (with_tokens ts) (with_tokens (first ++ (tag w ∷ map tag (filter (λ w. not (passes w)) ws) ++ last))) events)
          (append_assoc first (tag w ∷ []) (map tag ws ++ last))
          (subst (λ (ts : List Owing). Shows size backed (with_tokens ((first ++ tag w ∷ []) ++ (map tag ws ++ last))) (with_tokens ts) events)
          (append_assoc first (tag w ∷ []) (map tag (filter (λ w. not (passes w)) ws) ++ last)) inner))
    ]
      where
        left_out : passes w ≡ true → filter (λ x. not (passes x)) (w ∷ ws) ≡ filter (λ x. not (passes x)) ws
        left_out here = rw here refl

        left_in : passes w ≡ false → filter (λ x. not (passes x)) (w ∷ ws) ≡ w ∷ filter (λ x. not (passes x)) ws
        left_in stays = rw stays refl

        picked : passes w ≡ true → filter passes (w ∷ ws) ≡ w ∷ filter passes ws
        picked here = rw here refl

        not_picked : passes w ≡ false → filter passes (w ∷ ws) ≡ filter passes ws
        not_picked stays = rw stays refl

        answered : passes w ≡ true
            → ((es : List ClientEvent) → ArePutOut (map reply (filter passes ws)) es → Shows size backed (with_tokens (first ++ (map tag ws ++ last))) (with_tokens (first ++ (map tag (filter (λ w. not (passes w)) ws) ++ last))) es)
            → ArePutOut (reply w ∷ map reply (filter passes ws)) events
            → Shows size backed (with_tokens (first ++ (tag w ∷ map tag ws ++ last))) (with_tokens (first ++ (map tag (filter (λ w. not (passes w)) ws) ++ last))) events
        answered here rest (inl silent) =
            plays_then size (StandsFor backed (with_tokens (first ++ (tag w ∷ map tag ws ++ last)))) (StandsFor backed (with_tokens (first ++ (map tag ws ++ last))))
            (StandsFor backed (with_tokens (first ++ (map tag (filter (λ w. not (passes w)) ws) ++ last)))) [] events
            (shows_stay size backed (with_tokens (first ++ (tag w ∷ map tag ws ++ last))) (with_tokens (first ++ (map tag ws ++ last))) (drops w first (map tag ws ++ last)))
            (rest events silent)
        answered here rest (inr (more, is, others)) =
            subst (Shows size backed (with_tokens (first ++ (tag w ∷ map tag ws ++ last))) (with_tokens (first ++ (map tag (filter (λ w. not (passes w)) ws) ++ last)))) (sym is)
            (plays_then size (StandsFor backed (with_tokens (first ++ (tag w ∷ map tag ws ++ last)))) (StandsFor backed (with_tokens (first ++ (map tag ws ++ last))))
            (StandsFor backed (with_tokens (first ++ (map tag (filter (λ w. not (passes w)) ws) ++ last)))) (reply_event (reply w) ∷ []) more
            (answers w first (map tag ws ++ last) here) (rest more others))
