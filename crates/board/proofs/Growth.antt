-- A view with one step more, among the views of a board.
use Rattle.std.proofs.Common.{◌≡◌, ◌≢◌, ℕ, zero, suc, ◌<◌, ◌≤◌, ◌⊎◌, List, [], ◌∷◌, ◌++◌, length, set, sym, refl, ap, ◌∙◌, subst, inl, inr, ⊎_elim, arith}
use mathlib.Core.Logic.{dite}
use mathlib.Core.Option.{some, some-injective, some-ne-none}
use native.Mathlib.Decide.{ℕ_discrete}
use lib.ListN.{get_elem?}
use Rattle.atomic_table.proofs.Lists.{at_set, set_here, set_else, at_longer, at_last, at_snoc}
use Rattle.board.specs.declared.view.Step.{Step}
use Rattle.board.specs.declared.view.View.{View}
use Rattle.board.specs.Steps.{Asks, Finds, Has, Ascends, then}
use Rattle.board.specs.Rule.{Stepped, IsReal, Rises}

pub at_within : {A : Type 0} (l : List A) (i : ℕ) (a : A) → get_elem? l i ≡ some a → i < length l
at_within [] i a e = absurd (some-ne-none a (sym e))
at_within (x ∷ xs) zero a e = omega arith
at_within (x ∷ xs) (suc i) a e = let rest : i < length xs = at_within xs i a e in omega arith

-- a step that stands in the longer list stands in the shorter, or is the last
pub has_snoc : (steps : List Step) (last step : Step) → Has (steps ++ last ∷ []) step → Has steps step ⊎ (last ≡ step)
has_snoc steps last step h = ⊎_elim (λ (old : get_elem? steps h.place ≡ some step). inl record { place = h.place; is = old }) (λ (same : last ≡ step). inr same) (at_snoc steps last step h.place h.is)

has_longer : (steps : List Step) (last step : Step) → Has steps step → Has (steps ++ last ∷ []) step
has_longer steps last step h = record { place = h.place; is = at_longer steps (last ∷ []) h.place step h.is }

has_last : (steps : List Step) (last : Step) → Has (steps ++ last ∷ []) last
has_last steps last = record { place = length steps; is = at_last steps last (length steps) refl }

has_rest : (first : Step) (steps : List Step) (step : Step) → Has steps step → Has (first ∷ steps) step
has_rest first steps step h = record { place = suc h.place; is = h.is }

-- the numbers found never sink, where the last found is above none
pub ascends_snoc : (word : ℕ) (steps : List Step) (last : Step) → ((step : Step) (m n : ℕ) → Has steps step → Finds word step m → Finds word last n → m ≤ n)
    → Ascends word steps → Ascends word (steps ++ last ∷ [])
ascends_snoc word [] last above low = ((λ later m n h. absurd (some-ne-none later (sym h.is))), tt)
ascends_snoc word (first ∷ steps) last above low = (
  (λ later m n h found then_found. ⊎_elim
      (λ (old : Has steps later). low.0 later m n old found then_found)
      (λ (same : last ≡ later). above first m n record { place = 0; is = refl } found (subst (λ (e : Step). Finds word e n) (sym same) then_found))
      (has_snoc steps last later h)),
  ascends_snoc word steps last (λ step m n h. above step m n (has_rest first steps step h)) low.1,
)

module _ (views : List View) (id : ℕ) (view : View) (last : Step) (seated : get_elem? views id ≡ some view) where
  abbrev pub grown : List View
  grown = set views id (then view last)

  grow_at : (step : Step) (s : Stepped views step) → (s.seat ≡ id) ⊎ (s.seat ≢ id) → Stepped grown step
  grow_at step s (inl here) =
      let same : s.view ≡ view = some-injective _ _ (sym s.seated ∙ ap (get_elem? views) here ∙ seated) in
      record {
        seat = id;
        view = then view last;
        seated = set_here views id (then view last) (at_within views id view seated);
        made = has_longer view.steps last step (subst (λ (v : View). Has v.steps step) same s.made);
      }
  grow_at step s (inr there) = record { seat = s.seat; view = s.view; seated = set_else views id s.seat (then view last) there ∙ s.seated; made = s.made }

  -- a step that was made stays
  pub grow : (step : Step) → Stepped views step → Stepped grown step
  grow step s = grow_at step s (dite (ℕ_discrete s.seat id) (λ e. inl e) (λ n. inr n))

  pub newest : Stepped grown last
  newest = record { seat = id; view = then view last; seated = set_here views id (then view last) (at_within views id view seated); made = has_last view.steps last }

  -- a step that was made is an old one or the last
  pub split : (step : Step) → Stepped grown step → Stepped views step ⊎ (last ≡ step)
  split step s = ⊎_elim
      (λ (here : (s.seat ≡ id) × (then view last ≡ s.view)). ⊎_elim
      (λ (old : Has view.steps step). inl record { seat = id; view = view; seated = seated; made = old })
      (λ (same : last ≡ step). inr same)
      (has_snoc view.steps last step (subst (λ (v : View). Has v.steps step) (sym here.1) s.made)))
      (λ (there : (s.seat ≢ id) × (get_elem? views s.seat ≡ some s.view)). inl record { seat = s.seat; view = s.view; seated = there.1; made = s.made })
      (at_set views id s.seat (then view last) s.view s.seated)

  real_grows : (word base n : ℕ) → IsReal word base views n → IsReal word base grown n
  real_grows word base n (inl opening) = inl opening
  real_grows word base n (inr raised) = inr (raised.0, grow raised.0 raised.1, raised.2)

  -- a word that goes from `now` to `next`, where the last step asks for no more than that, and found just that
  pub rises_step : (word base now next : ℕ) → now ≤ next → ((n : ℕ) → Asks word last n → n ≤ next) → (next ≡ now) ⊎ Asks word last next → ((n : ℕ) → Finds word last n → n ≡ next)
      → Rises word base now views → Rises word base next grown
  rises_step word base now next up asks whence finds r =
      let one : IsReal word base grown next = ⊎_elim
      (λ (same : next ≡ now). subst (λ (n : ℕ). IsReal word base grown n) (sym same) (real_grows word base now r.one_of_them))
      (λ (asked : Asks word last next). inr (last, newest, asked)) whence in
      record {
        opening = (let low = r.opening in omega arith);
        raised = λ step n s asked. ⊎_elim
            (λ (old : Stepped views step). let low : n ≤ now = r.raised step n old asked in omega arith)
            (λ (same : last ≡ step). asks n (subst (λ (e : Step). Asks word e n) (sym same) asked)) (split step s);
        one_of_them = one;
        real = λ step n s found. ⊎_elim
            (λ (old : Stepped views step). real_grows word base n (r.real step n old found))
            (λ (same : last ≡ step). subst (λ (k : ℕ). IsReal word base grown k) (sym (finds n (subst (λ (e : Step). Finds word e n) (sym same) found))) one) (split step s);
        within = λ step n s found. ⊎_elim
            (λ (old : Stepped views step). let low : n ≤ now = r.within step n old found in omega arith)
            (λ (same : last ≡ step). let is : n ≡ next = finds n (subst (λ (e : Step). Finds word e n) (sym same) found) in omega arith) (split step s);
        ascends = λ seat v at. ⊎_elim
            (λ (here : (seat ≡ id) × (then view last ≡ v)). subst (λ (w : View). Ascends word w.steps) here.1
            (ascends_snoc word view.steps last
            (λ step m n h found last_found.
            let low : m ≤ now = r.within step m record { seat = id; view = view; seated = seated; made = h } found in
            let is : n ≡ next = finds n last_found in
            omega arith)
            (r.ascends id view seated)))
            (λ (there : (seat ≢ id) × (get_elem? views seat ≡ some v)). r.ascends seat v there.1)
            (at_set views id seat (then view last) v at);
      }
