-- Each step of an end keeps the rule.
use Rattle.std.proofs.Common.{◌≡◌, ◌≢◌, ℕ, zero, suc, true, false, true≢false, List, [], ◌∷◌, ◌++◌, length, drop, set, sym, refl, ap, ◌∙◌, subst, ⊎_elim, append_assoc}
use mathlib.Core.Option.{some, some-ne-none}
use lib.ListN.{get_elem?}
use Rattle.atomic_table.proofs.Lists.{at_set, at_snoc}
use Rattle.crossbeam_channel.specs.Fifo.{Pushes, Pops, Forks, Merges, Learns}
use Rattle.links.specs.declared.view.View.{View}
use Rattle.links.specs.Rule.{known, nothing, StartsWith, FitsSender, FitsReceiver, InOrder, puts, takes, waits, compares}

module _ {T : Type 0} where
  append_none : (xs : List T) → xs ++ [] ≡ xs
  append_none [] = refl
  append_none (x ∷ xs) = ap (λ l. x ∷ l) (append_none xs)

  pub starts_with_itself : (xs : List T) → StartsWith xs xs
  starts_with_itself xs = ([], sym (append_none xs))

  starts_longer : (xs first : List T) (x : T) → StartsWith xs first → StartsWith (xs ++ x ∷ []) first
  starts_longer xs first x h = (h.0 ++ x ∷ [], ap (λ l. l ++ x ∷ []) h.1 ∙ append_assoc first h.0 (x ∷ []))

  -- the rest behind a front
  pub rest_of : (xs ys : List T) → drop (length xs) (xs ++ ys) ≡ ys
  rest_of [] ys = refl
  rest_of (x ∷ xs) ys = rest_of xs ys

  at_end : (l : List (View T)) (a b : View T) (j : ℕ) → get_elem? l j ≢ some b → get_elem? (l ++ a ∷ []) j ≡ some b → j ≡ length l
  at_end [] a b zero n e = refl
  at_end [] a b (suc j) n e = absurd (some-ne-none b (sym e))
  at_end (x ∷ xs) a b zero n e = absurd (n e)
  at_end (x ∷ xs) a b (suc j) n e = ap suc (at_end xs a b j n e)

  abbrev All : (ℕ → View T → Type 0) → List (View T) → Type 0
  All F views = (pass : ℕ) (v : View T) → get_elem? views pass ≡ some v → F pass v

  all_set : (F : ℕ → View T → Type 0) (views : List (View T)) (pass : ℕ) (w : View T) → F pass w → ((j : ℕ) (u : View T) → j ≢ pass → get_elem? views j ≡ some u → F j u) → All F (set views pass w)
  all_set F views pass w mine others j u e = ⊎_elim (λ (x : (j ≡ pass) × (w ≡ u)). subst (λ (y : ℕ × View T). F y.0 y.1) (λ i. (sym x.0 i, x.1 i)) mine)
      (λ (x : (j ≢ pass) × (get_elem? views j ≡ some u)). others j u x.0 x.1) (at_set views pass j w u e)

  abbrev Fits : ℕ → ℕ → List T → List T → List T → ℕ → View T → Type 0
  Fits sender receiver put taken items pass v = FitsSender sender put pass v × FitsReceiver receiver taken items pass v

  abbrev pub first : View T
  first = known true true [] [] []

  pub begins : InOrder [] (first ∷ [])
  begins = record {
    sender = 0;
    receiver = 0;
    put = [];
    taken = [];
    in_order = refl;
    each = all_set (Fits 0 0 [] [] []) (first ∷ []) 0 first ((λ _. (refl, refl)), λ _. (refl, refl, starts_with_itself [])) (λ j u other e. absurd (other (at_end [] _ u j (λ x. some-ne-none u (sym x)) e)));
  }

  pub sends : (n pass : ℕ) (v : View T) (x : T) → v.puts ≡ true → Pushes InOrder n pass v x (puts v x)
  sends n pass v x may items views room h at = let w : View T = known v.puts v.takes (v.put ++ x ∷ []) v.taken v.coming in let mine = h.each pass v at in let put = h.put ++ x ∷ [] in (
    w,
    record {
      sender = h.sender;
      receiver = h.receiver;
      put = put;
      taken = h.taken;
      in_order = ap (λ l. l ++ x ∷ []) h.in_order ∙ append_assoc h.taken items (x ∷ []);
      each = all_set (Fits h.sender h.receiver put h.taken (items ++ x ∷ [])) views pass w
          ((λ _. ((mine.0 may).0, ap (λ l. l ++ x ∷ []) (mine.0 may).1)), λ p. ((mine.1 p).0, (mine.1 p).1, starts_longer items v.coming x (mine.1 p).2))
          (λ j u other e. let its = h.each j u e in ((λ p. absurd (other ((its.0 p).0 ∙ sym (mine.0 may).0))), λ p. ((its.1 p).0, (its.1 p).1, starts_longer items u.coming x (its.1 p).2)));
    },
    record { may = refl; put = refl },
  )

  pub gets : (pass : ℕ) (v : View T) → v.takes ≡ true → Pops InOrder pass v (takes v)
  gets pass v may x items views h at = let w : View T = known v.puts v.takes v.put (v.taken ++ x ∷ []) items in let mine = h.each pass v at in let taken = h.taken ++ x ∷ [] in (
    w,
    record {
      sender = h.sender;
      receiver = h.receiver;
      put = h.put;
      taken = taken;
      in_order = h.in_order ∙ sym (append_assoc h.taken (x ∷ []) items);
      each = all_set (Fits h.sender h.receiver h.put taken items) views pass w
          (mine.0, λ _. ((mine.1 may).0, ap (λ l. l ++ x ∷ []) (mine.1 may).1, starts_with_itself items))
          (λ j u other e. ((h.each j u e).0, λ p. absurd (other (((h.each j u e).1 p).0 ∙ sym (mine.1 may).0))));
    },
    record { may = refl; taken = refl; coming = (mine.1 may).2 },
  )

  pub hears : (pass : ℕ) (v : View T) → v.takes ≡ true → Learns InOrder pass v (waits v)
  hears pass v may items views h at = ((h.each pass v at).1 may).2

  pub forks : (pass : ℕ) (v : View T) → v.puts ≡ true → v.takes ≡ true → Forks InOrder pass v (known true false v.put [] []) (known false true [] v.taken (drop (length v.taken) v.put))
  forks pass v a b items views h at = let l : View T = known true false v.put [] [] in let r : View T = known false true [] v.taken (drop (length v.taken) v.put) in let mine = h.each pass v at in let vs : List (View T) = set views pass l in
      let comes : items ≡ r.coming = sym (ap (λ (y : List T × List T). drop (length y.0) y.1) (λ i. ((mine.1 b).1 i, ((mine.0 a).1 ∙ h.in_order) i)) ∙ rest_of h.taken items) in
      let Old : ℕ → View T → Type 0 = λ j u. (u.puts ≡ true → (j ≡ h.sender) × (u.put ≡ h.put)) × (u.takes ≢ true) in
      let old : All Old vs = all_set Old views pass l ((λ _. mine.0 a), λ p. true≢false (sym p)) (λ j u other e. ((h.each j u e).0, λ p. other (((h.each j u e).1 p).0 ∙ sym (mine.1 b).0))) in record {
        sender = h.sender;
        receiver = length vs;
        put = h.put;
        taken = h.taken;
        in_order = h.in_order;
        each = λ j u e. ⊎_elim (λ x. ((old j u x).0, λ p. absurd ((old j u x).1 p)))
            (λ (is : r ≡ u). ((λ p. absurd (true≢false (sym (ap (λ (y : View T). y.puts) is ∙ p)))), λ p. (at_end vs r u j (λ x. (old j u x).1 p) e, ap (λ (y : View T). y.taken) (sym is) ∙ (mine.1 b).1, subst (λ (y : View T). StartsWith items y.coming) is (subst (StartsWith items) comes (starts_with_itself items))))) (at_snoc vs r u j e);
      }

  pub merges : (pass : ℕ) (v : View T) (other : ℕ) (u : View T) → v.puts ≡ true → u.takes ≡ true → Merges InOrder pass v other u (known true true v.put u.taken u.coming) nothing
  merges pass v other u a b items views h at two at' = let both : View T = known true true v.put u.taken u.coming in let mine = h.each pass v at in let vs : List (View T) = set views pass both in
      let was : get_elem? views other ≡ some u = ⊎_elim (λ x. absurd (two x.0)) (λ x. x.1) (at_set views pass other both u at') in let theirs = (h.each other u was).1 b in
      let Now : ℕ → View T → Type 0 = λ j y. j ≢ other → Fits h.sender pass h.put h.taken items j y in
      let now : All Now vs = all_set Now views pass both (λ _. ((λ _. mine.0 a), λ _. (refl, theirs.1, theirs.2))) (λ j y _ e apart. ((h.each j y e).0, λ p. absurd (apart (((h.each j y e).1 p).0 ∙ sym theirs.0)))) in record {
        sender = h.sender;
        receiver = pass;
        put = h.put;
        taken = h.taken;
        in_order = h.in_order;
        each = all_set (Fits h.sender pass h.put h.taken items) vs other nothing ((λ p. absurd (true≢false (sym p))), λ p. absurd (true≢false (sym p))) (λ j y apart e. now j y e apart);
      }

  pub totals : (pass : ℕ) (v : View T) → v.puts ≡ true → v.takes ≡ true → Learns InOrder pass v (compares v)
  totals pass v a b items views h at = let mine = h.each pass v at in ((mine.0 a).1 ∙ h.in_order ∙ ap (λ l. l ++ items) (sym (mine.1 b).1), (mine.1 b).2)
