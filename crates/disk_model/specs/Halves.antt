-- A disk that is cut at a border into two disks, and put together again.
use Rattle.std.specs.Prelude.{◌≡◌, ◌⊎◌, ℕ, ◌+◌, ◌-◌, ◌≤◌, List, ◌++◌, length, take, drop}
use Rattle.std.proofs.Common.{inl, inr, ⊎_elim, ap, subst, sym, ◌∙◌, arith}
use Rattle.std.proofs.Math.Nat.{le_refl}
use Rattle.std.proofs.lemmas.List.{take_at, drop_at, drop-drop, drop-take, take-take}
use Rattle.disk_model.specs.Part.{inside}
use Rattle.disk_model.specs.declared.part.Part.{Part}
use Rattle.disk_model.specs.Disk.{Elapses, LeavesOnly, NothingNew, Torn}

-- What a read gives of the whole, and what a stop may leave of it, is that of its two halves, each on its own.
pub record AreHalves (border : ℕ) (gives home_gives log_gives : List ℕ) (may_leave home_may_leave log_may_leave : List ℕ → Type 0) : Type 0 where
  pub shown : gives ≡ home_gives ++ log_gives
  pub apart : (c : List ℕ) → may_leave c → home_may_leave (take border c) × log_may_leave (drop border c)
  pub together : (c : List ℕ) → home_may_leave (take border c) → log_may_leave (drop border c) → may_leave c

-- A call that did nothing: what a read gives is as before, and nothing new may be left.
pub record IsUntouched (gives_old gives_new : List ℕ) (left_old left_new : List ℕ → Type 0) (before now : ℕ) (past since : ℕ → List ℕ → Type 0) : Type 0 where
  pub shown : gives_new ≡ gives_old
  pub leaves : NothingNew left_old left_new
  pub time : Elapses before now past since left_new

-- The past is what a stop may have left until the log was lent.
pub record IsPast (until moment : ℕ) (before since : ℕ → List ℕ → Type 0) : Type 0 where
  pub at : until ≡ moment
  pub nothing_else : (t : ℕ) (c : List ℕ) → t ≤ moment → before t c → since t c
  pub keeps : (t : ℕ) (c : List ℕ) → t ≤ moment → since t c → before t c

-- After the halves are put together, a stop since t may have left what it might have left until they were cut, or any
-- that one half may have left meanwhile, beside any that the other may.
pub record Rejoins (until now : ℕ) (before since : ℕ → List ℕ → Type 0) (border : ℕ) (home_left log_left : List ℕ → Type 0) : Type 0 where
  pub later : until ≤ now
  pub nothing_else : (t : ℕ) (c : List ℕ) → t ≤ until → since t c → before t c ⊎ (home_left (take border c) × log_left (drop border c))
  pub keeps : (t : ℕ) (c : List ℕ) → t ≤ until → before t c → since t c
  pub beside : (t : ℕ) (c : List ℕ) → t ≤ until → home_left (take border c) → log_left (drop border c) → since t c

-- what has P below the border, and Q behind it
abbrev pub Beside : ℕ → (List ℕ → Type 0) → (List ℕ → Type 0) → List ℕ → Type 0
Beside border P Q c = P (take border c) × Q (drop border c)

-- A run of either half is a run of the whole: from before the log was lent until after it was returned, a stop leaves
-- what the runs of the two halves leave, side by side.
pub rejoined : {D L : Type 0} {moment : D → ℕ} {left_since : D → ℕ → List ℕ → Type 0} {log_moment : L → ℕ} {log_left_since : L → ℕ → List ℕ → Type 0}
    {before : ℕ → List ℕ → Type 0} {until cut : ℕ} (border : ℕ) (P Q : List ℕ → Type 0) {whole home home_then : D} (new : D) {log log_then : L}
    → ((c : List ℕ) → left_since whole (moment whole) c → Beside border P Q c)
    → IsPast until (moment whole) before (left_since whole) → moment home ≡ 0 → log_moment log ≡ 0
    → LeavesOnly moment left_since home home_then P → LeavesOnly log_moment log_left_since log log_then Q
    → cut ≡ border → Rejoins until (moment new) before (left_since new) cut (left_since home_then 0) (log_left_since log_then 0)
    → LeavesOnly moment left_since whole new (Beside border P Q)
rejoined {moment = moment} {left_since} {log_moment} {log_left_since} {until = until} {cut} border P Q {whole} {home} {home_then} new {log} {log_then} first past home_begins log_begins home_run log_run same again =
    record {
      later = subst (λ (n : ℕ). n ≤ moment new) past.at again.later;
      each = λ c left. ⊎_elim (λ old. first c (past.nothing_else (moment whole) c (le_refl (moment whole)) old)) (meanwhile c) (again.nothing_else (moment whole) c (le_until (moment whole) (le_refl (moment whole))) left);
      before = λ t c le left. ⊎_elim (λ old. inl (past.nothing_else t c le old)) (λ now. inr (meanwhile c now)) (again.nothing_else t c (le_until t le) left);
    }
  where
    le_until : (t : ℕ) → t ≤ moment whole → t ≤ until
    le_until t le = subst (λ (n : ℕ). t ≤ n) (sym past.at) le

    meanwhile : (c : List ℕ) → left_since home_then 0 (take cut c) × log_left_since log_then 0 (drop cut c) → Beside border P Q c
    meanwhile c left = let (a, x) = subst (λ (n : ℕ). left_since home_then 0 (take n c) × log_left_since log_then 0 (drop n c)) same left in (
      home_run.each (take border c) (subst (λ (n : ℕ). left_since home_then n (take border c)) (sym home_begins) a),
      log_run.each (drop border c) (subst (λ (n : ℕ). log_left_since log_then n (drop border c)) (sym log_begins) x),
    )

-- what a write of n bytes at this place may make of what may be left
abbrev pub MayBeTorn : ℕ → ℕ → (List ℕ → Type 0) → List ℕ → Type 0
MayBeTorn at n may_leave c = (d : List ℕ) × may_leave d × Torn at n d c

-- what may be left below the border, of each content that may be left
abbrev pub LeftBelow : ℕ → (List ℕ → Type 0) → List ℕ → Type 0
LeftBelow border may_leave a = (c : List ℕ) × may_leave c × (a ≡ take border c)

-- and behind it
abbrev pub LeftBehind : ℕ → (List ℕ → Type 0) → List ℕ → Type 0
LeftBehind border may_leave x = (c : List ℕ) × may_leave c × (x ≡ drop border c)

module _ {border : ℕ} {gives home_gives log_gives : List ℕ} {may_leave home_may_leave log_may_leave : List ℕ → Type 0}
    (halves : AreHalves border gives home_gives log_gives may_leave home_may_leave log_may_leave) (size : length home_gives ≡ border) where
  -- a read of a half gives what it gives of the whole
  pub gives_below : take border gives ≡ home_gives
  gives_below = ap (λ (c : List ℕ). take border c) halves.shown ∙ take_at home_gives log_gives border size

  pub gives_behind : drop border gives ≡ log_gives
  gives_behind = ap (λ (c : List ℕ). drop border c) halves.shown ∙ drop_at home_gives log_gives border size

  -- what may be left of a half may be left of the whole there
  pub left_below : ((a : List ℕ) → home_may_leave a → length a ≡ border) → log_may_leave log_gives → (a : List ℕ) → home_may_leave a → LeftBelow border may_leave a
  left_below sizes here a left =
      let first = take_at a log_gives border (sizes a left) in
      let rest = drop_at a log_gives border (sizes a left) in
      (a ++ log_gives, halves.together (a ++ log_gives) (subst home_may_leave (sym first) left) (subst log_may_leave (sym rest) here), sym first)

  pub left_behind : home_may_leave home_gives → (x : List ℕ) → log_may_leave x → LeftBehind border may_leave x
  left_behind here x left =
      let first = take_at home_gives x border size in
      let rest = drop_at home_gives x border size in
      (home_gives ++ x, halves.together (home_gives ++ x) (subst home_may_leave (sym first) here) (subst log_may_leave (sym rest) left), sym rest)

  -- and the other way
  pub below_left : (a : List ℕ) → LeftBelow border may_leave a → home_may_leave a
  below_left a (c, left, is) = subst home_may_leave (sym is) (halves.apart c left).0

  pub behind_left : (x : List ℕ) → LeftBehind border may_leave x → log_may_leave x
  behind_left x (c, left, is) = subst log_may_leave (sym is) (halves.apart c left).1

-- a part that ends at the border or before it
pub inside_below : (border : ℕ) (part : Part) (c : List ℕ) → part.start + part.len ≤ border → inside part (take border c) ≡ inside part c
inside_below border part c within =
    let rest : part.start + (border - part.start) ≡ border = omega arith in
    ap (λ (n : ℕ). take part.len (drop part.start (take n c))) (sym rest)
    ∙ ap (λ (l : List ℕ). take part.len l) (drop-take part.start (border - part.start) c)
    ∙ take-take part.len (border - part.start) (drop part.start c) (omega arith)

-- a part behind it, and the same counted from the border on
pub inside_behind : (border : ℕ) (part here : Part) (c : List ℕ) → part.start ≡ border + here.start → part.len ≡ here.len → inside here (drop border c) ≡ inside part c
inside_behind border part here c start len =
    ap (λ (l : List ℕ). take here.len l) (drop-drop here.start border c ∙ ap (λ (n : ℕ). drop n c) (sym start))
    ∙ ap (λ (n : ℕ). take n (drop part.start c)) (sym len)
