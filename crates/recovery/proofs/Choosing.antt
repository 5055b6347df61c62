-- One more disk beside the best so far.
use Rattle.std.specs.Prelude.{◌==◌}
use Rattle.std.proofs.Common.{◌≡◌, ℕ, ◌+◌, ◌<◌, ◌≤◌, false, List, [], ◌∷◌, Option, Some, None, length, inl, inr, subst, arith, below_more}
use Rattle.std.proofs.lemmas.Bool.{cases_lt}
use Rattle.std.proofs.lemmas.Option.{slice_get_within}
use Rattle.configurations.specs.declared.member.Member.{Member}
use Rattle.recovery.specs.declared.returned.Returned.{Returned}
use Rattle.recovery.specs.declared.returned.Returned.TheVariants.{Opened}
use Rattle.recovery.specs.declared.choice.Candidate.{Candidate}
use Rattle.recovery.specs.Candidate.{Beats, IsBest, IsBestSoFar, IsCandidate, IsCandidateAt}
use Rattle.recovery.specs.Choice.{IsRecorded, IsSource, NoneRecorded}

module _ (chain : List Member) (returned : List Returned) where
  -- what holds of each disk of the chain before a place, and of the disk there
  each_more : (P : ℕ → ℕ → ℕ → Type 0) (place : ℕ) → ((p s f : ℕ) → p < place → IsRecorded chain returned p s f → P p s f) → ((s f : ℕ) → IsRecorded chain returned place s f → P place s f)
      → (p s f : ℕ) → p < place + 1 → IsRecorded chain returned p s f → P p s f
  each_more P place before here p s f lt is =
      below_more (λ (k : ℕ). (s f : ℕ) → IsRecorded chain returned k s f → P k s f) place (λ k below s f is. before k s f below is) here p lt s f is

  -- a disk that the chain doesn't have changes nothing
  pub stranger_passed : (place : ℕ) (best : Option Candidate) → IsBestSoFar chain returned place best → IsCandidateAt chain returned place None → IsBestSoFar chain returned (place + 1) best
  stranger_passed place None none stranger = each_more (λ p s f. ⊥) place none stranger
  stranger_passed place (Some b) best stranger = record {
    before = omega (arith, best.before);
    is = best.is;
    greatest = each_more (λ p s f. f ≤ b.front) place best.greatest (λ s f is. absurd (stranger s f is));
    in_chain = each_more (λ p s f. f ≡ b.front → b.seat ≤ s) place best.in_chain (λ s f is. absurd (stranger s f is));
    in_list = each_more (λ p s f. f ≡ b.front → s ≡ b.seat → b.place ≤ p) place best.in_list (λ s f is. absurd (stranger s f is));
  }

  module _ (place : ℕ) (n : Candidate) (here : n.place ≡ place) (next : IsCandidate chain returned n) where
    same_front : (s f : ℕ) → IsRecorded chain returned place s f → f ≡ n.front
    same_front = subst (λ (p : ℕ). (s f : ℕ) → IsRecorded chain returned p s f → f ≡ n.front) here next.same

    first_seat : (s f : ℕ) → IsRecorded chain returned place s f → n.seat ≤ s
    first_seat = subst (λ (p : ℕ). (s f : ℕ) → IsRecorded chain returned p s f → n.seat ≤ s) here next.first

    -- it is the best where there was none
    pub first_best : IsBestSoFar chain returned place None → IsBest chain returned (place + 1) n
    first_best none = record {
      before = omega arith;
      is = next.is;
      greatest = each_more (λ p s f. f ≤ n.front) place (λ p s f lt is. absurd (none p s f lt is)) (λ s f is. omega (arith, same_front s f is));
      in_chain = each_more (λ p s f. f ≡ n.front → n.seat ≤ s) place (λ p s f lt is. absurd (none p s f lt is)) (λ s f is e. first_seat s f is);
      in_list = each_more (λ p s f. f ≡ n.front → s ≡ n.seat → n.place ≤ p) place (λ p s f lt is. absurd (none p s f lt is)) (λ s f is e e'. omega arith);
    }

    module _ (b : Candidate) (best : IsBest chain returned place b) where
      -- it is the best where it beats the best so far
      pub beaten : Beats n b → IsBest chain returned (place + 1) n
      beaten beats = record {
        before = omega arith;
        is = next.is;
        greatest = each_more (λ p s f. f ≤ n.front) place (λ p s f lt is. below p s f lt is beats) (λ s f is. omega (arith, same_front s f is));
        in_chain = each_more (λ p s f. f ≡ n.front → n.seat ≤ s) place (λ p s f lt is e. omega (arith, later p s f lt is beats e)) (λ s f is e. first_seat s f is);
        in_list = each_more (λ p s f. f ≡ n.front → s ≡ n.seat → n.place ≤ p) place (λ p s f lt is e e'. absurd (omega (arith, later p s f lt is beats e))) (λ s f is e e'. omega arith);
      }
        where
          below : (p s f : ℕ) → p < place → IsRecorded chain returned p s f → Beats n b → f ≤ n.front
          below p s f lt is (inl more) = omega (arith, best.greatest p s f lt is)
          below p s f lt is (inr (same, earlier)) = omega (arith, best.greatest p s f lt is)

          later : (p s f : ℕ) → p < place → IsRecorded chain returned p s f → Beats n b → f ≡ n.front → n.seat < s
          later p s f lt is (inl more) e = absurd (omega (arith, best.greatest p s f lt is))
          later p s f lt is (inr (same, earlier)) e =
              let with_best : f ≡ b.front = omega arith in
              omega (arith, best.in_chain p s f lt is with_best)

      -- and else the best so far stays
      pub unbeaten : (Beats n b → ⊥) → IsBest chain returned (place + 1) b
      unbeaten never = record {
        before = omega (arith, best.before);
        is = best.is;
        greatest = each_more (λ p s f. f ≤ b.front) place best.greatest (λ s f is. omega (arith, same_front s f is, no_more));
        in_chain = each_more (λ p s f. f ≡ b.front → b.seat ≤ s) place best.in_chain (λ s f is e. omega (arith, first_seat s f is, no_earlier (omega (arith, same_front s f is))));
        in_list = each_more (λ p s f. f ≡ b.front → s ≡ b.seat → b.place ≤ p) place best.in_list (λ s f is e e'. omega (arith, best.before));
      }
        where
          no_more : n.front ≤ b.front
          no_more = elim (cases_lt b.front n.front) [ inl lt ↦ absurd (never (inl lt)) | inr le ↦ le ]

          no_earlier : n.front ≡ b.front → b.seat ≤ n.seat
          no_earlier same = elim (cases_lt n.seat b.seat) [ inl lt ↦ absurd (never (inr (same, lt))) | inr le ↦ le ]

  -- each disk of the chain stands in the list
  within : (p s f : ℕ) → IsRecorded chain returned p s f → p < length returned
  within p s f is = slice_get_within returned p (Opened is.member f) is.opened

  -- the best of all is the source
  pub best_is_source : (b : Candidate) → IsBest chain returned (length returned) b → IsSource chain returned b.place
  best_is_source b best = record {
    seat = b.seat;
    front = b.front;
    is = best.is;
    greatest = λ p s f is. best.greatest p s f (within p s f is) is;
    in_chain = λ p s f is. best.in_chain p s f (within p s f is) is;
    in_list = λ p s f is. best.in_list p s f (within p s f is) is;
  }

  -- where there is no best, the chain has none of them
  pub none_best : IsBestSoFar chain returned (length returned) None → NoneRecorded chain returned
  none_best none p s f is = none p s f (within p s f is) is

-- a list that was tested has elements
pub some_returned : (xs : List Returned) → false ≡ (length xs == 0) → xs ≡ [] → ⊥
some_returned [] told e = cc
some_returned (x ∷ xs) told e = cc
