-- A step of a seat keeps the rule, where its entry says what the exchange did.
use Rattle.std.proofs.Common.{◌≡◌, ◌≢◌, ℕ, zero, suc, ◌<◌, ◌≤◌, ◌⊎◌, List, [], ◌∷◌, ◌++◌, set, get_or, sym, refl, ap, ◌∙◌, subst, inl, inr, ⊎_elim, arith}
use Rattle.std.proofs.lemmas.List.{append_assoc, append-nil, length-set, get_or-set_same, get_or-set_other}
use mathlib.Core.Logic.{dite}
use mathlib.Core.Option.{some, some-injective, some-ne-none}
use native.Mathlib.Decide.{ℕ_discrete}
use lib.ListN.{get_elem?}
use Rattle.atomic_table.proofs.Lists.{at_set}
use Rattle.board.specs.declared.evidence.TheConstants.Front.{GREATEST}
use Rattle.board.specs.declared.view.Opening.{Opening}
use Rattle.board.specs.declared.view.Step.{Step}
use Rattle.board.specs.declared.view.View.{View}
use Rattle.board.specs.Steps.{Asks, Finds, Counts, Has, then, mask_then, mask_after, words_then, words_after}
use Rattle.board.specs.Rule.{Stepped, Rises, Masks, BoardRule, StartsWith, counting}
use Rattle.board.proofs.Growth.{has_snoc, split, rises_step}

mask_after-snoc : (mask : ℕ) (steps : List Step) (last : Step) → mask_after mask (steps ++ last ∷ []) ≡ mask_then (mask_after mask steps) last
mask_after-snoc mask [] last = refl
mask_after-snoc mask (first ∷ steps) last = mask_after-snoc (mask_then mask first) steps last

words_after-snoc : (words : List ℕ) (steps : List Step) (last : Step) → words_after words (steps ++ last ∷ []) ≡ words_then (words_after words steps) last
words_after-snoc words [] last = refl
words_after-snoc words (first ∷ steps) last = words_after-snoc (words_then words first) steps last

-- what the last step, made at the word i, does to a word that only rises
pub record Turn (i : ℕ) (last : Step) (now next : ℕ) : Type 0 where
  pub up : now ≤ next
  pub asks : (n : ℕ) → Asks i last n → n ≤ next
  pub whence : (next ≡ now) ⊎ Asks i last next
  pub finds : (n : ℕ) → Finds i last n → n ≡ next

-- what it does to the mask
pub record MaskTurn (id : ℕ) (last : Step) (now next : ℕ) : Type 0 where
  pub is : next ≡ mask_then now last
  pub still : id ≢ 0 → (mask : ℕ) → mask_then mask last ≡ mask
  pub counts : Counts last → id ≡ 0
  pub finds : (n : ℕ) → Finds 1 last n → n ≡ next
  pub byte : next < 256

-- the last step is one of the word i
pub record IsOf (i : ℕ) (last : Step) : Type 0 where
  pub asks : (word n : ℕ) → Asks word last n → word ≡ i
  pub finds : (word n : ℕ) → Finds word last n → word ≡ i

module _ (views : List View) (id : ℕ) (view : View) (last : Step) (seated : get_elem? views id ≡ some view) where
  abbrev grown : List View
  grown = set views id (then view last)

  -- the counting seat's steps, one longer or as they were
  counting_grows : (vs : List View) (k : ℕ) → get_elem? vs k ≡ some view
      → ((k ≡ 0) × (counting (set vs k (then view last)) ≡ counting vs ++ last ∷ [])) ⊎ ((k ≢ 0) × (counting (set vs k (then view last)) ≡ counting vs))
  counting_grows [] k e = absurd (some-ne-none view (sym e))
  counting_grows (v ∷ vs) zero e = inl (refl, ap (λ (w : View). w.steps ++ last ∷ []) (sym (some-injective v view e)))
  counting_grows (v ∷ vs) (suc k) e = inr ((λ z. omega arith), refl)

  pub masks_step : (base now next : ℕ) → MaskTurn id last now next → Masks base now views → Masks base next grown
  masks_step base now next t r =
      let longer : StartsWith (counting grown) (counting views) × (next ≡ mask_after base (counting grown)) = ⊎_elim
      (λ (here : (id ≡ 0) × (counting grown ≡ counting views ++ last ∷ [])).
      ((last ∷ [], here.1), t.is ∙ ap (λ (m : ℕ). mask_then m last) r.counted ∙ sym (mask_after-snoc base (counting views) last) ∙ ap (mask_after base) (sym here.1)))
      (λ (there : (id ≢ 0) × (counting grown ≡ counting views)).
      (([], there.1 ∙ sym (append-nil (counting views))), t.is ∙ t.still there.0 now ∙ r.counted ∙ ap (mask_after base) (sym there.1)))
      (counting_grows views id seated) in
      record {
        counted = longer.1;
        real = λ step n s found. ⊎_elim
            (λ (old : Stepped views step). let was = r.real step n old found in
            (was.0, (was.1.0 ++ longer.0.0, longer.0.1 ∙ ap (λ (steps : List Step). steps ++ longer.0.0) was.1.1 ∙ append_assoc was.0 was.1.0 longer.0.0), was.2))
            (λ (same : last ≡ step).
            (counting grown, ([], sym (append-nil (counting grown))), t.finds n (subst (λ (e : Step). Finds 1 e n) (sym same) found) ∙ longer.1))
            (split views id view last seated step s);
        one_counts = λ seat v step at has counts. ⊎_elim
            (λ (here : (seat ≡ id) × (then view last ≡ v)). ⊎_elim
            (λ (old : Has view.steps step). here.0 ∙ r.one_counts id view step seated old counts)
            (λ (same : last ≡ step). here.0 ∙ t.counts (subst Counts (sym same) counts))
            (has_snoc view.steps last step (subst (λ (w : View). Has w.steps step) (sym here.1) has)))
            (λ (there : (seat ≢ id) × (get_elem? views seat ≡ some v)). r.one_counts seat v step there.1 has counts)
            (at_set views id seat (then view last) v at);
        byte = t.byte;
      }

  one_grows : (only : View) (k : ℕ) → get_elem? (only ∷ []) k ≡ some view → (only ≡ view) × (set (only ∷ []) k (then view last) ≡ then view last ∷ [])
  one_grows only zero e = (some-injective only view e, refl)
  one_grows only (suc k) e = absurd (some-ne-none view (sym e))

  pub board_step : (opening : Opening) (words : List ℕ) (i next : ℕ) → i < 10 → IsOf i last
      → (i ≢ 1 → Turn i last (get_or words i 0) next)
      → MaskTurn id last (get_or words 1 0) (get_or (set words i next) 1 0)
      → get_or (set words i next) 0 0 ≤ GREATEST
      → words_then words last ≡ set words i next
      → BoardRule opening words views → BoardRule opening (set words i next) grown
  board_step opening words i next inside of turn mask_turn within moves r =
      let ten = r.ten in
      let there : get_or (set words i next) i 0 ≡ next = get_or-set_same words i next 0 (omega arith) in
      record {
        ten = length-set words i next ∙ ten;
        rises = λ word not_mask. dite (ℕ_discrete word i)
            (λ (same : word ≡ i).
            let t = turn (λ (e : i ≡ 1). not_mask (same ∙ e)) in
            subst (λ (w : ℕ). Rises w (get_or opening.words w 0) (get_or (set words i next) w 0) grown) (sym same)
            (subst (λ (x : ℕ). Rises i (get_or opening.words i 0) x grown) (sym there)
            (rises_step views id view last seated i (get_or opening.words i 0) (get_or words i 0) next t.up t.asks t.whence t.finds
            (r.rises i (λ (e : i ≡ 1). not_mask (same ∙ e))))))
            (λ (other : word ≢ i).
            subst (λ (x : ℕ). Rises word (get_or opening.words word 0) x grown) (sym (get_or-set_other words i word next 0 other))
            (rises_step views id view last seated word (get_or opening.words word 0) (get_or words word 0) (get_or words word 0) (omega arith)
            (λ n asked. absurd (other (of.asks word n asked))) (inl refl) (λ n found. absurd (other (of.finds word n found)))
            (r.rises word not_mask)));
        mask = masks_step (get_or opening.words 1 0) (get_or words 1 0) (get_or (set words i next) 1 0) mask_turn r.mask;
        within = within;
        opened = λ seat v at. ⊎_elim
            (λ (here : (seat ≡ id) × (then view last ≡ v)). ap (λ (w : View). w.opening) (sym here.1) ∙ r.opened id view seated)
            (λ (there : (seat ≢ id) × (get_elem? views seat ≡ some v)). r.opened seat v there.1)
            (at_set views id seat (then view last) v at);
        first_counts = λ seat v at counts. ⊎_elim
            (λ (here : (seat ≡ id) × (then view last ≡ v)). here.0 ∙ r.first_counts id view seated (ap (λ (w : View). w.counts) here.1 ∙ counts))
            (λ (there : (seat ≢ id) × (get_elem? views seat ≡ some v)). r.first_counts seat v there.1 counts)
            (at_set views id seat (then view last) v at);
        alone = λ one.
            let was = r.alone one in
            let only = one_grows was.0 id (subst (λ (vs : List View). get_elem? vs id ≡ some view) was.1 seated) in (
              then view last,
              ap (λ (vs : List View). set vs id (then view last)) was.1 ∙ only.1,
              sym moves ∙ ap (λ (ws : List ℕ). words_then ws last) (was.2 ∙ ap (λ (w : View). words_after opening.words w.steps) only.0) ∙ sym (words_after-snoc opening.words view.steps last),
            );
      }
