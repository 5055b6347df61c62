-- What a cut leaves.
use Rattle.std.proofs.Common.{◌≡◌, ⊎_elim, ℕ, ◌+◌, ◌≤◌, Bool, true, false, List, [], ◌∷◌, ◌++◌, length, get_or, replicate, All, Option, Some, None, Vec, refl, sym, ◌∙◌, ap, subst, arith}
use Rattle.std.proofs.lemmas.List.{append-nil, length-replicate}
use Rattle.std.proofs.lemmas.List.Elements.{All-append, All-cons, All-head, All-nil, All-tail}
use Rattle.std.specs.Option.{ForSome}
use Rattle.std.specs.declared.alloc.Global.{Global}
use Rattle.disk_model.specs.Content.{filled, left_by, ranges_from, unsynced_in, IsOutside, IsImage}
use Rattle.disk_model.specs.Disk.{put}
use Rattle.disk_model.specs.Images.{is_image}
use Rattle.disk_model.specs.There.{there_or}
use Rattle.disk_model.specs.Writes.{length-put, get_or-put_before, get_or-put_after}
use Rattle.disk_model.specs.Waiting.{waiting_now}
use Rattle.disk_model.specs.declared.content.Content.{Content}
use Rattle.disk_model.specs.declared.content.Cut.{Cut}
use Rattle.disk_model.specs.declared.content.Cut.TheVariants.{All as CutAll, None as CutNone}
use Rattle.disk_model.specs.declared.content.Extent.{Extent}

abbrev blanks : ℕ → List ℕ
blanks n = replicate n 255

module _ (bytes : List ℕ) (range : Extent) (ranges : List Extent) (within : All (λ (r : Extent). r.at + r.len ≤ length bytes) (range ∷ ranges)) where
  abbrev one : List ℕ
  one = put bytes range.at (blanks range.len)

  fits : range.at + length (blanks range.len) ≤ length bytes
  fits = omega (arith, length-replicate {A = ℕ} range.len 255, All-head (λ (r : Extent). r.at + r.len ≤ length bytes) range ranges within)

  rest : All (λ (r : Extent). r.at + r.len ≤ length one) ranges
  rest = subst (λ (n : ℕ). All (λ (r : Extent). r.at + r.len ≤ n) ranges) (sym (length-put bytes range.at (blanks range.len) fits)) (All-tail (λ (r : Extent). r.at + r.len ≤ length bytes) range ranges within)

length-filled : (bytes : List ℕ) (ranges : List Extent) → All (λ (r : Extent). r.at + r.len ≤ length bytes) ranges → length (filled bytes ranges) ≡ length bytes
length-filled bytes [] within = refl
length-filled bytes (range ∷ ranges) within =
    length-filled (one bytes range ranges within) ranges (rest bytes range ranges within) ∙ length-put bytes range.at (blanks range.len) (fits bytes range ranges within)

-- what is filled stays elsewhere
get_or-filled : (bytes : List ℕ) (ranges : List Extent) → All (λ (r : Extent). r.at + r.len ≤ length bytes) ranges → (k : ℕ) → IsOutside k ranges → get_or (filled bytes ranges) k 0 ≡ get_or bytes k 0
get_or-filled bytes [] within k outside = refl
get_or-filled bytes (range ∷ ranges) within k outside =
    let room = fits bytes range ranges within in
    get_or-filled (one bytes range ranges within) ranges (rest bytes range ranges within) k outside.1
    ∙ ⊎_elim
    (λ below. get_or-put_before bytes range.at (blanks range.len) room k below)
    (λ past. get_or-put_after bytes range.at (blanks range.len) room k (omega (arith, length-replicate {A = ℕ} range.len 255)))
    outside.0

-- what a cut leaves of a content that may be left may be left
pub left_image : (cut : Cut) (bytes x : List ℕ) (ranges : List Extent) → All (λ (r : Extent). r.at + r.len ≤ length bytes) ranges → IsImage bytes ranges x → IsImage bytes ranges (left_by cut x ranges)
left_image CutAll bytes x ranges within image = image
left_image CutNone bytes x ranges within image =
    let here = subst (λ (n : ℕ). All (λ (r : Extent). r.at + r.len ≤ n) ranges) (sym image.size) within in
    record {
      size = length-filled x ranges here ∙ image.size;
      same = λ k lt outside. get_or-filled x ranges here k outside ∙ image.same k lt outside;
    }

-- what a disk stopped with may be left
pub there_image : (there : Option (Vec ℕ Global)) (bytes : List ℕ) (ranges : List Extent) → ForSome there (λ v. IsImage bytes ranges v.items) → IsImage bytes ranges (there_or there bytes)
there_image None bytes ranges left = is_image bytes ranges
there_image (Some v) bytes ranges left = left v refl

-- each range of a content lies within its bytes
marks_within : (at : ℕ) (marks : List Bool) (n : ℕ) → at + length marks ≤ n → All (λ (r : Extent). r.at + r.len ≤ n) (ranges_from at marks)
marks_within at [] n within = All-nil (λ (r : Extent). r.at + r.len ≤ n)
marks_within at (true ∷ marks) n within =
    All-cons (λ (r : Extent). r.at + r.len ≤ n) (record { at = at; len = 1 }) (ranges_from (at + 1) marks) (omega arith) (marks_within (at + 1) marks n (omega arith))
marks_within at (false ∷ marks) n within = marks_within (at + 1) marks n (omega arith)

within_in : (waits : Bool) (loose : List Bool) (ranges : List Extent) (n : ℕ) → length loose ≤ n → All (λ (r : Extent). r.at + r.len ≤ n) ranges → All (λ (r : Extent). r.at + r.len ≤ n) (unsynced_in waits loose ranges)
within_in true loose ranges n short within = All-append (λ (r : Extent). r.at + r.len ≤ n) (ranges_from 0 loose) ranges (marks_within 0 loose n (omega arith)) within
within_in false loose ranges n short within = within

pub waiting_within : (content : Content) → All (λ (r : Extent). r.at + r.len ≤ length content.bytes.items) (waiting_now content)
waiting_within content = within_in content.waits content.loose.items content.unsynced.items (length content.bytes.items) content.short content.within

-- what is filled in turn
pub filled-append : (bytes : List ℕ) (xs ys : List Extent) → filled bytes (xs ++ ys) ≡ filled (filled bytes xs) ys
filled-append bytes [] ys = refl
filled-append bytes (x ∷ xs) ys = filled-append (put bytes x.at (blanks x.len)) xs ys

pub filled-first : (bytes : List ℕ) (waits : Bool) (loose : List Bool) (ranges : List Extent) → filled (filled bytes (unsynced_in waits loose [])) ranges ≡ filled bytes (unsynced_in waits loose ranges)
filled-first bytes true loose ranges = ap (λ (rs : List Extent). filled (filled bytes rs) ranges) (append-nil (ranges_from 0 loose)) ∙ sym (filled-append bytes (ranges_from 0 loose) ranges)
filled-first bytes false loose ranges = refl
