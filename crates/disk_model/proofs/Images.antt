-- What a stop may leave, one call on.
use Rattle.std.proofs.Common.{◌≡◌, ◌⊎◌, inl, inr, ⊎_elim, ℕ, ◌+◌, ◌<◌, ◌≤◌, List, [], ◌∷◌, ◌++◌, length, get_or, take, drop, sym, ◌∙◌, ap, subst, arith, rules, length-drop}
use Rattle.std.proofs.lemmas.List.{places, length-take-le, take-append-le, take_all, length_push, ext_get_or}
use Rattle.std.proofs.lemmas.Bool.{cases_lt}
use Rattle.disk_model.specs.Disk.{Torn, Elapses}
use Rattle.disk_model.specs.Content.{shown_after, unsynced_after, IsOutside, IsImage, MayHaveLeft}
use Rattle.disk_model.specs.Disk.{put}
use Rattle.disk_model.specs.Waiting.{waiting_first, waiting_now}
use Rattle.disk_model.specs.declared.content.Change.{Change}
use Rattle.disk_model.specs.declared.content.Content.{Content}
use Rattle.disk_model.specs.declared.content.Extent.{Extent}
use Rattle.disk_model.specs.Writes.{length-put, take-put, drop-put, get_or-put_before, get_or-put_in, get_or-put_after, put-nil}

IsOutside-push : (k : ℕ) (ranges : List Extent) (range : Extent) → IsOutside k ranges → (k < range.at) ⊎ (range.at + range.len ≤ k) → IsOutside k (ranges ++ range ∷ [])
IsOutside-push k [] range outside here = (here, tt)
IsOutside-push k (r ∷ ranges) range outside here = (outside.0, IsOutside-push k ranges range outside.1 here)

IsOutside-last : (k : ℕ) (ranges : List Extent) (range : Extent) → IsOutside k (ranges ++ range ∷ []) → (k < range.at) ⊎ (range.at + range.len ≤ k)
IsOutside-last k [] range outside = outside.0
IsOutside-last k (r ∷ ranges) range outside = IsOutside-last k ranges range outside.1

-- a write that a stop may tear follows from what might have been left before it
module _ (bytes written : List ℕ) (ranges : List Extent) (at len : ℕ) (fits : at + len ≤ length bytes) (within : length written ≤ len) where
  abbrev back : List ℕ → List ℕ
  back c = put c at (take len (drop at bytes))

  mid : length (take len (drop at bytes)) ≡ len
  mid = length-take-le len (drop at bytes) (omega (arith, length-drop at bytes))

  pub torn_image : (new : List ℕ) (waiting : List Extent) → new ≡ put bytes at written → waiting ≡ ranges ++ record { at = at; len = len } ∷ [] → (c : List ℕ) → IsImage new waiting c → (d : List ℕ) × IsImage bytes ranges d × Torn at len d c
  torn_image new waiting is added c left = (back c, record { size = whole ∙ long; same = same }, record { size = sym whole; before = sym (take-put c at (take len (drop at bytes)) room); after = behind })
    where
      image : IsImage (put bytes at written) (ranges ++ record { at = at; len = len } ∷ []) c
      image = subst (λ (b : List ℕ). IsImage b (ranges ++ record { at = at; len = len } ∷ []) c) is (subst (λ (r : List Extent). IsImage new r c) added left)

      long : length c ≡ length bytes
      long = image.size ∙ length-put bytes at written (omega arith)

      room : at + length (take len (drop at bytes)) ≤ length c
      room = omega (arith, mid, long)

      whole : length (back c) ≡ length c
      whole = length-put c at (take len (drop at bytes)) room

      behind : drop (at + len) c ≡ drop (at + len) (back c)
      behind = sym (subst (λ (n : ℕ). drop (at + n) (back c) ≡ drop (at + n) c) mid (drop-put c at (take len (drop at bytes)) room))

      outside : (k : ℕ) → k < length bytes → IsOutside k ranges → (k < at) ⊎ (at + len ≤ k) → get_or c k 0 ≡ get_or bytes k 0
      outside k lt out here =
          image.same k (omega (arith, length-put bytes at written (omega arith))) (IsOutside-push k ranges (record { at = at; len = len }) out here)
          ∙ ⊎_elim (λ below. get_or-put_before bytes at written (omega arith) k below) (λ past. get_or-put_after bytes at written (omega arith) k (omega arith)) here

      same : (k : ℕ) → k < length bytes → IsOutside k ranges → get_or (back c) k 0 ≡ get_or bytes k 0
      same k lt out = elim (cases_lt k at) [
        | inl below ↦ get_or-put_before c at (take len (drop at bytes)) room k below ∙ outside k lt out (inl below)
        | inr from ↦ elim (cases_lt k (at + len)) [
          | inl to ↦ get_or-put_in c at (take len (drop at bytes)) room k from (omega (arith, mid)) ∙ search (rules, places)
          | inr past ↦ get_or-put_after c at (take len (drop at bytes)) room k (omega (arith, mid)) ∙ outside k lt out (inr past)
        ]
      ]

  -- a part of it may be what is left
  pub stopped_image : (new there : List ℕ) (waiting : List Extent) → new ≡ put bytes at [] → waiting ≡ ranges ++ record { at = at; len = len } ∷ [] → there ≡ put bytes at written → IsImage new waiting there
  stopped_image new there waiting same added is = record {
    size = ap length is ∙ length-put bytes at written (omega arith) ∙ sym (ap length (same ∙ put-nil bytes at));
    same = λ k lt outside.
        ap (λ (l : List ℕ). get_or l k 0) is
        ∙ ⊎_elim (λ below. get_or-put_before bytes at written (omega arith) k below) (λ past. get_or-put_after bytes at written (omega arith) k (omega arith)) (IsOutside-last k ranges (record { at = at; len = len }) (subst (IsOutside k) added outside))
        ∙ sym (ap (λ (l : List ℕ). get_or l k 0) (same ∙ put-nil bytes at));
  }

-- the calls of a content go on
module _ (old new : Content) (same : new.base.items ≡ old.base.items) (first : waiting_first new ≡ waiting_first old) where
  abbrev Left : List ℕ → List Extent → List Change → List ℕ → Type 0
  Left base waiting log c = IsImage (shown_after base log) (unsynced_after waiting log) c

  abbrev Since : List Change → ℕ → List ℕ → Type 0
  Since log t c = MayHaveLeft new.base.items (waiting_first new) log t c

  was : (log : List Change) (t : ℕ) (c : List ℕ) → Since log t c → MayHaveLeft old.base.items (waiting_first old) log t c
  was log t c left =
      subst (λ (b : List ℕ). MayHaveLeft b (waiting_first old) log t c) same (subst (λ (r : List Extent). MayHaveLeft new.base.items r log t c) first left)

  is_still : (log : List Change) (t : ℕ) (c : List ℕ) → MayHaveLeft old.base.items (waiting_first old) log t c → Since log t c
  is_still log t c left =
      subst (λ (r : List Extent). MayHaveLeft new.base.items r log t c) (sym first) (subst (λ (b : List ℕ). MayHaveLeft b (waiting_first old) log t c) (sym same) left)

  pub elapses_same : new.log.items ≡ old.log.items
      → Elapses (length old.log.items) (length new.log.items) (MayHaveLeft old.base.items (waiting_first old) old.log.items) (MayHaveLeft new.base.items (waiting_first new) new.log.items) (IsImage new.bytes.items (waiting_now new))
  elapses_same is = record {
    later = omega (arith, ap length is);
    nothing_else = λ t c le left. inl (was old.log.items t c (subst (λ (l : List Change). Since l t c) is left));
    keeps = λ t c le left. subst (λ (l : List Change). Since l t c) (sym is) (is_still old.log.items t c left);
  }

  module _ (x : Change) (is : new.log.items ≡ old.log.items ++ x ∷ []) where
    earlier : (k : ℕ) → k ≤ length old.log.items → take k new.log.items ≡ take k old.log.items
    earlier k le = ap (λ (l : List Change). take k l) is ∙ take-append-le k old.log.items (x ∷ []) le

    -- what is replayed in full is what is there now
    now : (c : List ℕ) → Left new.base.items (waiting_first new) new.log.items c → IsImage new.bytes.items (waiting_now new) c
    now c left =
        subst (λ (b : List ℕ). IsImage b (waiting_now new) c) (sym new.replayed) (subst (λ (r : List Extent). IsImage (shown_after new.base.items new.log.items) r c) (sym new.ranges) left)

    pub elapses_added : Elapses (length old.log.items) (length new.log.items) (MayHaveLeft old.base.items (waiting_first old) old.log.items) (MayHaveLeft new.base.items (waiting_first new) new.log.items) (IsImage new.bytes.items (waiting_now new))
    elapses_added = record {
      later = omega (arith, count);
      nothing_else = λ t c le (k, from, to, left). ⊎_elim
          (λ here. inl (was old.log.items t c (k, from, here, subst (λ (l : List Change). Left new.base.items (waiting_first new) l c) (earlier k here) left)))
          (λ past. inr (now c (subst (λ (l : List Change). Left new.base.items (waiting_first new) l c) (take_all k new.log.items (omega (arith, count))) left)))
          (within k);
      keeps = λ t c le left.
          let (k, from, to, here) = is_still old.log.items t c left in
          (k, from, omega (arith, count), subst (λ (l : List Change). Left new.base.items (waiting_first new) l c) (sym (earlier k to)) here);
    }
      where
        count : length new.log.items ≡ length old.log.items + 1
        count = ap length is ∙ length_push old.log.items x

        within : (k : ℕ) → (k ≤ length old.log.items) ⊎ (length old.log.items < k)
        within k = ⊎_elim (λ lt. inr lt) (λ le. inl le) (cases_lt (length old.log.items) k)

-- with nothing unsynced there is one content
pub image_of_none : (bytes c : List ℕ) → IsImage bytes [] c → c ≡ bytes
image_of_none bytes c image = ext_get_or 0 c bytes image.size (λ k lt. image.same k (omega (arith, image.size)) tt)
