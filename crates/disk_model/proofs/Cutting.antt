-- The two halves of a content, and the whole of two.
use Rattle.std.proofs.Common.{◌≡◌, ℕ, ◌+◌, ◌-◌, ◌<◌, ◌≤◌, Bool, true, false, List, [], ◌++◌, length, get_or, take, drop, Option, Some, None, is_some, ◌||◌, Vec, refl, sym, ◌∙◌, ap, subst, arith, length-drop, take-append-drop}
use Rattle.std.proofs.lemmas.List.{take_at, take_all, drop_at, get_or_default, length-take-le, get_or-take, get_or-drop}
use Rattle.std.specs.List.{slice_range}
use Rattle.std.specs.Option.{ForSome}
use Rattle.std.specs.declared.alloc.Global.{Global}
use Rattle.disk_model.specs.Content.{ranges_from, AreMarked, IsOutside, IsImage}
use Rattle.disk_model.specs.Halves.{AreHalves}
use Rattle.disk_model.specs.There.{there_or}
use Rattle.disk_model.specs.declared.content.Extent.{Extent}
use Rattle.disk_model.proofs.Marks.{outside_marks, open_marks, halves_by}

-- what is cut in two by the marks
pub halves_cut : (border : ℕ) (bytes home log : List ℕ) (waits : List Extent) (marks : List Bool) (home_waits log_waits : List Extent)
    → border ≤ length bytes → length marks ≡ length bytes → AreMarked waits marks → home ≡ take border bytes → log ≡ drop border bytes
    → home_waits ≡ ranges_from 0 (take border marks) → log_waits ≡ ranges_from 0 (drop border marks)
    → AreHalves border bytes home log (IsImage bytes waits) (IsImage home home_waits) (IsImage log log_waits)
halves_cut border bytes home log waits marks home_waits log_waits within size marked is_home is_log is_home_waits is_log_waits =
    subst (λ (b : List ℕ). AreHalves border b home log (IsImage b waits) (IsImage home home_waits) (IsImage log log_waits)) whole
    (halves_by border home log waits home_waits log_waits count home_to home_from log_to log_from)
  where
    whole : home ++ log ≡ bytes
    whole = ap (λ (l : List ℕ). l ++ log) is_home ∙ ap (λ (l : List ℕ). take border bytes ++ l) is_log ∙ take-append-drop border bytes

    count : length home ≡ border
    count = ap length is_home ∙ length-take-le border bytes within

    rest : length log ≡ length bytes - border
    rest = ap length is_log ∙ length-drop border bytes

    home_mark : (k : ℕ) → k < border → get_or (take border marks) k false ≡ get_or marks k true
    home_mark k below = get_or-take border marks k false below ∙ get_or_default marks k false true (omega arith)

    log_mark : (k : ℕ) → k < length log → get_or (drop border marks) k false ≡ get_or marks (border + k) true
    log_mark k lt = get_or-drop border marks k false ∙ get_or_default marks (border + k) false true (omega (arith, rest))

    home_to : (k : ℕ) → k < border → IsOutside k waits → IsOutside k home_waits
    home_to k below outside =
        subst (IsOutside k) (sym is_home_waits) (outside_marks (take border marks) k (home_mark k below ∙ marked.unmarked k (omega arith) outside))

    home_from : (k : ℕ) → k < border → IsOutside k home_waits → IsOutside k waits
    home_from k below outside =
        marked.outside k (omega arith) (sym (home_mark k below) ∙ open_marks (take border marks) k (subst (IsOutside k) is_home_waits outside))

    log_to : (k : ℕ) → k < length log → IsOutside (border + k) waits → IsOutside k log_waits
    log_to k lt outside =
        subst (IsOutside k) (sym is_log_waits) (outside_marks (drop border marks) k (log_mark k lt ∙ marked.unmarked (border + k) (omega (arith, rest)) outside))

    log_from : (k : ℕ) → k < length log → IsOutside k log_waits → IsOutside (border + k) waits
    log_from k lt outside =
        marked.outside (border + k) (omega (arith, rest)) (sym (log_mark k lt) ∙ open_marks (drop border marks) k (subst (IsOutside k) is_log_waits outside))

-- and what is put together with the marks of both
pub halves_joined : (bytes home log : List ℕ) (waits home_waits log_waits : List Extent) (marks : List Bool)
    → length marks ≡ length home + length log → bytes ≡ home ++ log → waits ≡ ranges_from 0 marks
    → AreMarked home_waits (take (length home) marks) → AreMarked log_waits (drop (length home) marks)
    → AreHalves (length home) bytes home log (IsImage bytes waits) (IsImage home home_waits) (IsImage log log_waits)
halves_joined bytes home log waits home_waits log_waits marks size is is_waits home_marked log_marked =
    subst (λ (b : List ℕ). AreHalves (length home) b home log (IsImage b waits) (IsImage home home_waits) (IsImage log log_waits)) (sym is)
    (halves_by (length home) home log waits home_waits log_waits refl home_to home_from log_to log_from)
  where
    front : length (take (length home) marks) ≡ length home
    front = length-take-le (length home) marks (omega arith)

    rest : length (drop (length home) marks) ≡ length log
    rest = omega (arith, length-drop (length home) marks)

    home_mark : (k : ℕ) → k < length home → get_or (take (length home) marks) k true ≡ get_or marks k false
    home_mark k below = get_or-take (length home) marks k true below ∙ get_or_default marks k true false (omega arith)

    log_mark : (k : ℕ) → k < length log → get_or (drop (length home) marks) k true ≡ get_or marks (length home + k) false
    log_mark k lt = get_or-drop (length home) marks k true ∙ get_or_default marks (length home + k) true false (omega arith)

    home_to : (k : ℕ) → k < length home → IsOutside k waits → IsOutside k home_waits
    home_to k below outside =
        home_marked.outside k (omega (arith, front)) (home_mark k below ∙ open_marks marks k (subst (IsOutside k) is_waits outside))

    home_from : (k : ℕ) → k < length home → IsOutside k home_waits → IsOutside k waits
    home_from k below outside =
        subst (IsOutside k) (sym is_waits) (outside_marks marks k (sym (home_mark k below) ∙ home_marked.unmarked k (omega (arith, front)) outside))

    log_to : (k : ℕ) → k < length log → IsOutside (length home + k) waits → IsOutside k log_waits
    log_to k lt outside =
        log_marked.outside k (omega (arith, rest)) (log_mark k lt ∙ open_marks marks (length home + k) (subst (IsOutside (length home + k)) is_waits outside))

    log_from : (k : ℕ) → k < length log → IsOutside k log_waits → IsOutside (length home + k) waits
    log_from k lt outside =
        subst (IsOutside (length home + k)) (sym is_waits) (outside_marks marks (length home + k) (sym (log_mark k lt) ∙ log_marked.unmarked k (omega (arith, rest)) outside))

-- what is left of each half is left of the whole
pub joined_left : (border : ℕ) {gives home_gives log_gives : List ℕ} {left home_left log_left : List ℕ → Type 0} → AreHalves border gives home_gives log_gives left home_left log_left
    → (home log : List ℕ) → length home ≡ border → home_left home → log_left log → left (home ++ log)
joined_left border {home_left = home_left} {log_left} halves home log size first second =
    halves.together (home ++ log) (subst home_left (sym (take_at home log border size)) first) (subst log_left (sym (drop_at home log border size)) second)

-- a part of what is there, once a disk has stopped
pub part_left : (there part : Option (Vec ℕ Global)) (from to : ℕ) (P Q : List ℕ → Type 0) → is_some part ≡ is_some there → ForSome there (λ v. P v.items)
    → ForSome part (λ v. v.items ≡ slice_range (there_or there []) from to) → ((c : List ℕ) → P c → Q (slice_range c from to)) → ForSome part (λ v. Q v.items)
part_left (Some w) part from to P Q some left is apart = λ v same. subst Q (sym (is v same)) (apart w.items (left w refl))
part_left None None from to P Q some left is apart = λ v same. absurd (cc)
part_left None (Some w) from to P Q some left is apart = absurd (cc)

-- what is there is cut in two
pub bytes_cut : (there home_there log_there : Option (Vec ℕ Global)) (border len : ℕ) (bytes home log : List ℕ) → is_some home_there ≡ is_some there → is_some log_there ≡ is_some there
    → ForSome there (λ v. length v.items ≡ len) → ForSome home_there (λ v. v.items ≡ slice_range (there_or there []) 0 border) → ForSome log_there (λ v. v.items ≡ slice_range (there_or there []) border len)
    → bytes ≡ home ++ log → there_or there bytes ≡ there_or home_there home ++ there_or log_there log
bytes_cut (Some w) (Some h) (Some l) border len bytes home log home_some log_some size is_home is_log shown =
    let front : border - 0 ≡ border = omega arith in
    let fits : length (drop border w.items) ≤ len - border = omega (arith, size w refl, length-drop border w.items) in
    sym (ap (λ (c : List ℕ). c ++ l.items) (is_home h refl ∙ ap (λ (n : ℕ). take n w.items) front)
    ∙ ap (λ (c : List ℕ). take border w.items ++ c) (is_log l refl ∙ take_all (len - border) (drop border w.items) fits)
    ∙ take-append-drop border w.items)
bytes_cut None None None border len bytes home log home_some log_some size is_home is_log shown = shown
bytes_cut (Some w) None log_there border len bytes home log home_some log_some size is_home is_log shown = absurd (cc)
bytes_cut (Some w) (Some h) None border len bytes home log home_some log_some size is_home is_log shown = absurd (cc)
bytes_cut None (Some h) log_there border len bytes home log home_some log_some size is_home is_log shown = absurd (cc)
bytes_cut None None (Some l) border len bytes home log home_some log_some size is_home is_log shown = absurd (cc)

-- what is there of the two halves
pub bytes_joined : (there home_there log_there : Option (Vec ℕ Global)) (bytes home log : List ℕ) → is_some there ≡ (is_some home_there || is_some log_there)
    → ForSome there (λ v. v.items ≡ there_or home_there home ++ there_or log_there log) → bytes ≡ home ++ log → there_or there bytes ≡ there_or home_there home ++ there_or log_there log
bytes_joined (Some v) home_there log_there bytes home log some is joined = is v refl
bytes_joined None None None bytes home log some is joined = joined
bytes_joined None None (Some w) bytes home log some is joined = absurd (cc)
bytes_joined None (Some w) log_there bytes home log some is joined = absurd (cc)
