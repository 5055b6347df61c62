-- How one reply after another is answered: lemmas.
use Rattle.std.proofs.Common.{◌≡◌, ◌++◌, ◌∷◌, [], List, Ok, Err, Result, refl, subst, inl, inr}
use Rattle.std.specs.Prelude.{OnErr, OnOk}
use Rattle.flush_barrier.specs.Reply.{GivenReply}
use Rattle.nbd_session.specs.Replies.{answered, reply_seen}
use Rattle.sessions.specs.Talk.{HasAnswered, HasAnsweredAll, Talking, given_up}

-- one more
pub answered_one_more : (replies : List GivenReply) (reply : GivenReply) (old between new : Talking) → HasAnsweredAll replies old between → HasAnswered reply between new
    → HasAnsweredAll (replies ++ reply ∷ []) old new
answered_one_more [] reply old between new same has = (new, subst (λ t. HasAnswered reply t new) same has, refl)
answered_one_more (first ∷ replies) reply old between new (after, one, others) has = (after, one, answered_one_more replies reply after between new others has)

-- a call either answered it, or gave the session up
pub answered_or_given_up : {E : Type 0} (result : Result (Unit {0}) E) (reply : GivenReply) (old new : Talking)
    → OnOk result (new ≡ record old { session = answered old.session (reply_seen reply) }) → OnErr result (new ≡ given_up old) → HasAnswered reply old new
answered_or_given_up (Ok u) reply old new ok err = inl ok
answered_or_given_up (Err e) reply old new ok err = inr err

-- neither changes whose session it is
pub answered_keeps_id : (reply : GivenReply) (old new : Talking) → HasAnswered reply old new → new.session.id ≡ old.session.id
answered_keeps_id reply old new (inl is) = rw is
answered_keeps_id reply old new (inr is) = rw is
