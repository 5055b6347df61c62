-- What a write that was done, or torn, leaves: lemmas for the crates above.
use Rattle.std.proofs.Common.{◌≡◌, ◌⊎◌, inl, inr, refl, sym, ℕ, ◌+◌, ◌-◌, ◌<◌, ◌≤◌, List, [], ◌++◌, length, get_or, take, drop, ◌∙◌, ap, arith, rules, append_assoc, length-append, length-drop, take-append-drop}
use Rattle.std.proofs.lemmas.List.{places, take_at, drop_at, length-take-le, drop-drop, drop-take, take-take}
use Rattle.std.specs.List.{slice_range}
use Rattle.disk_model.specs.Disk.{put, Torn}

module _ (bytes : List ℕ) (at : ℕ) (new : List ℕ) (fits : at + length new ≤ length bytes) where
  front : length (take at bytes) ≡ at
  front = length-take-le at bytes (omega arith)

  pub length-put : length (put bytes at new) ≡ length bytes
  length-put = omega (arith, front, length-append (take at bytes ++ new) (drop (at + length new) bytes), length-append (take at bytes) new, length-drop (at + length new) bytes)

  pub take-put : take at (put bytes at new) ≡ take at bytes
  take-put = ap (λ (l : List ℕ). take at l) (append_assoc (take at bytes) new (drop (at + length new) bytes)) ∙ take_at (take at bytes) (new ++ drop (at + length new) bytes) at front

  pub drop-put : drop (at + length new) (put bytes at new) ≡ drop (at + length new) bytes
  drop-put = drop_at (take at bytes ++ new) (drop (at + length new) bytes) (at + length new) (omega (arith, front, length-append (take at bytes) new))

  pub get_or-put_before : (k : ℕ) → k < at → get_or (put bytes at new) k 0 ≡ get_or bytes k 0
  get_or-put_before k below = search (rules, places)

  pub get_or-put_in : (k : ℕ) → at ≤ k → k < at + length new → get_or (put bytes at new) k 0 ≡ get_or new (k - at) 0
  get_or-put_in k from to = search (rules, places)

  pub get_or-put_after : (k : ℕ) → at + length new ≤ k → get_or (put bytes at new) k 0 ≡ get_or bytes k 0
  get_or-put_after k past = search (rules, places)

  -- they are what is read there
  pub slice-put : slice_range (put bytes at new) at (at + length new) ≡ new
  slice-put =
      let count : at + length new - at ≡ length new = omega arith in
      ap (λ (k : ℕ). take k (drop at (put bytes at new))) count
      ∙ ap (λ (l : List ℕ). take (length new) (drop at l)) (append_assoc (take at bytes) new (drop (at + length new) bytes))
      ∙ ap (λ (l : List ℕ). take (length new) l) (drop_at (take at bytes) (new ++ drop (at + length new) bytes) at front)
      ∙ take_at new (drop (at + length new) bytes) (length new) refl

  -- what was put in place is a write that wasn't torn
  pub torn-put : Torn at (length new) bytes (put bytes at new)
  torn-put = record { size = length-put; before = take-put; after = drop-put }

-- nothing in the place of nothing
pub put-nil : (bytes : List ℕ) (at : ℕ) → put bytes at [] ≡ bytes
put-nil bytes at = search (rules, take-append-drop)

-- a content is what stands before a range, in it and behind it
pub three_parts : (at n : ℕ) (c : List ℕ) → c ≡ take at c ++ take n (drop at c) ++ drop (at + n) c
three_parts at n c =
    sym (take-append-drop at c)
    ∙ ap (λ (r : List ℕ). take at c ++ r) (sym (take-append-drop n (drop at c)))
    ∙ ap (λ (r : List ℕ). take at c ++ (take n (drop at c) ++ r)) (drop-drop n at c)
    ∙ sym (append_assoc (take at c) (take n (drop at c)) (drop (at + n) c))

-- a torn write leaves some bytes in the range, and the rest as it was
pub torn_parts : (at n : ℕ) (old new : List ℕ) → Torn at n old new → new ≡ take at old ++ take n (drop at new) ++ drop (at + n) old
torn_parts at n old new torn =
    three_parts at n new
    ∙ ap (λ (l : List ℕ). l ++ take n (drop at new) ++ drop (at + n) new) torn.before
    ∙ ap (λ (l : List ℕ). take at old ++ take n (drop at new) ++ l) torn.after

-- what doesn't overlap stays
pub torn_beside : (at n from len : ℕ) (old new : List ℕ) → (at + n ≤ from) ⊎ (from + len ≤ at) → Torn at n old new → take len (drop from new) ≡ take len (drop from old)
torn_beside at n from len old new (inl behind) torn =
    let more = from - (at + n) in
    let same : at + n + more ≡ from = omega arith in
    let split : (c : List ℕ) → drop more (drop (at + n) c) ≡ drop from c = λ c. drop-drop more (at + n) c ∙ ap (λ (k : ℕ). drop k c) same in
    ap (λ (l : List ℕ). take len l) (sym (split new) ∙ ap (λ (l : List ℕ). drop more l) torn.after ∙ split old)
torn_beside at n from len old new (inr ahead) torn =
    let split : (c : List ℕ) → take len (drop from c) ≡ drop from (take (from + len) (take at c)) = λ c.
    sym (drop-take from len c) ∙ ap (λ (l : List ℕ). drop from l) (sym (take-take (from + len) at c ahead)) in
    split new ∙ ap (λ (l : List ℕ). drop from (take (from + len) l)) torn.before ∙ sym (split old)
