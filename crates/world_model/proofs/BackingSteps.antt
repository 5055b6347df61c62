-- How what the board tells of the disks stays so: lemmas for the crates above.
use Rattle.std.proofs.Common.{◌≡◌, ℕ, ◌<◌, ◌≤◌, get_or, min, true, false, List, [], ◌∷◌, ◌++◌, length, sym, ◌∙◌, ap, inl, inr, arith}
use Rattle.std.specs.Prelude.{All}
use Rattle.std.proofs.lemmas.Bool.{cases_Bool}
use Rattle.std.proofs.lemmas.List.Elements.{All-append, All-cons, All-head, All-nil, All-tail, All-weaker}
use Rattle.board.specs.Mask.{counts}
use Rattle.gate_journal.specs.Receipt.{Receipt}
use Rattle.world_model.specs.Backing.{Disk, IsBacked, IsMustered, IsOnDisk, IsWhole, Muster, least_of}
use Rattle.world_model.proofs.Counting.{all_before, all_behind}

-- ---- a disk has more

-- one disk of these has more than before
abbrev pub with_durable : List Disk → Disk → ℕ → List Disk → List Disk
with_durable above d more below = above ++ record d { durable = more } ∷ below

module _ (above : List Disk) (d : Disk) (more : ℕ) (below : List Disk) (rises : d.durable ≤ more) where
  -- what holds of a disk holds of one that has more
  pub all_rise : (P : Disk → Type 0) → (P d → P (record d { durable = more })) → All P (above ++ d ∷ below) → All P (with_durable above d more below)
  all_rise P keeps all =
      All-append P above (record d { durable = more } ∷ below) (all_before P above (d ∷ below) all)
      (All-cons P (record d { durable = more }) below (keeps (All-head P d below (all_behind P above (d ∷ below) all))) (All-tail P d below (all_behind P above (d ∷ below) all)))

  on_disk_stays : (r : Receipt) → IsOnDisk (above ++ d ∷ below) r → IsOnDisk (with_durable above d more below) r
  on_disk_stays r on = all_rise (λ x. x.slot ≡ r.slot → r.front ≤ x.durable) (λ was same. let le = was same in omega arith) on

  mustered_stays : (committed : ℕ) (m : Muster) → IsMustered committed (above ++ d ∷ below) m → IsMustered committed (with_durable above d more below) m
  mustered_stays committed m is = record {
    front = is.front;
    gauges = All-weaker (IsOnDisk (above ++ d ∷ below)) (IsOnDisk (with_durable above d more below)) on_disk_stays m.gauges is.gauges;
    uncounted = all_rise (λ x. counts m.mask x.slot ≡ false → m.front ≤ x.durable) (λ was none. let le = was none in omega arith) is.uncounted;
  }

  -- what was backed is backed
  pub backs_more_disk : (committed mask : ℕ) (gauges receipts : List Receipt) (musters : List Muster) → IsBacked committed mask gauges receipts musters (above ++ d ∷ below)
      → IsBacked committed mask gauges receipts musters (with_durable above d more below)
  backs_more_disk committed mask gauges receipts musters is = record {
    mask_covers = all_rise (λ x. counts mask x.slot ≡ true) (λ was. was) is.mask_covers;
    gauges_backed = All-weaker (IsOnDisk (above ++ d ∷ below)) (IsOnDisk (with_durable above d more below)) on_disk_stays gauges is.gauges_backed;
    receipts_backed = All-weaker (IsOnDisk (above ++ d ∷ below)) (IsOnDisk (with_durable above d more below)) on_disk_stays receipts is.receipts_backed;
    mustered = All-weaker (IsMustered committed (above ++ d ∷ below)) (IsMustered committed (with_durable above d more below)) (mustered_stays committed) musters is.mustered;
  }

-- ---- what is told

module _ (committed mask : ℕ) (gauges receipts : List Receipt) (musters : List Muster) (disks : List Disk) (is : IsBacked committed mask gauges receipts musters disks) where
  -- more is committed
  pub backs_committed : (more : ℕ) → committed ≤ more → IsBacked more mask gauges receipts musters disks
  backs_committed more grows = record {
    mask_covers = is.mask_covers;
    gauges_backed = is.gauges_backed;
    receipts_backed = is.receipts_backed;
    mustered = All-weaker (IsMustered committed disks) (IsMustered more disks) (λ m was. record { front = omega (arith, was.front); gauges = was.gauges; uncounted = was.uncounted }) musters is.mustered;
  }

  -- a muster begins: the mask behind a committed front
  pub backs_crew : (front : ℕ) → front ≤ committed → IsMustered committed disks (record { front = front; mask = mask; gauges = [] })
  backs_crew front le = record {
    front = le;
    gauges = All-nil (IsOnDisk disks);
    uncounted = All-weaker (λ d. counts mask d.slot ≡ true) (λ d. counts mask d.slot ≡ false → front ≤ d.durable)
        (λ d here none. let both : true ≡ false = sym here ∙ none in absurd cc) disks is.mask_covers;
  }

-- a gauge more is looked up for it
pub musters_gauge : (committed : ℕ) (disks : List Disk) (m : Muster) (r : Receipt) → IsMustered committed disks m → IsOnDisk disks r
    → IsMustered committed disks (record m { gauges = m.gauges ++ r ∷ [] })
musters_gauge committed disks m r is on = record {
  front = is.front;
  gauges = All-append (IsOnDisk disks) m.gauges (r ∷ []) is.gauges (All-cons (IsOnDisk disks) r [] on (All-nil (IsOnDisk disks)));
  uncounted = is.uncounted;
}

-- the least is at most each of them
least_le : (front : ℕ) (rs : List Receipt) → (least_of front rs ≤ front) × All (λ r. least_of front rs ≤ r.front) rs
least_le front [] = (omega arith, All-nil (λ r. front ≤ r.front))
least_le front (r ∷ rs) =
    let rest = least_le front rs in (
      omega (arith, rest.0),
      All-cons (λ x. min r.front (least_of front rs) ≤ x.front) r rs (omega arith) (All-weaker (λ x. least_of front rs ≤ x.front) (λ x. min r.front (least_of front rs) ≤ x.front) (λ x le. omega arith) rs rest.1),
    )

-- every disk has the writes up to the floor of a whole muster
pub floor_is_backed : (committed : ℕ) (disks : List Disk) (m : Muster) → IsMustered committed disks m → IsWhole m
    → (least_of m.front m.gauges ≤ committed) × All (λ d. least_of m.front m.gauges ≤ d.durable) disks
floor_is_backed committed disks m is whole = (omega (arith, (least_le m.front m.gauges).0, is.front), λ i d lt. each i d lt)
  where
    each : (i : ℕ) (d : Disk) → i < length disks → least_of m.front m.gauges ≤ (get_or disks i d).durable
    each i d lt = elim (cases_Bool (counts m.mask (get_or disks i d).slot)) [
      | inl counted ↦
          let (k, r, within, there, same) = whole (get_or disks i d).slot counted in
          let on : (get_or disks i d).slot ≡ (get_or m.gauges k r).slot → (get_or m.gauges k r).front ≤ (get_or disks i d).durable = (is.gauges k r within) i d lt in
          let mine : (get_or disks i d).slot ≡ (get_or m.gauges k r).slot = sym (ap (λ (x : Receipt). x.slot) there ∙ same) in
          let le : least_of m.front m.gauges ≤ (get_or m.gauges k r).front = (least_le m.front m.gauges).1 k r within in
          let holds = on mine in
          omega arith
      | inr none ↦ let holds = is.uncounted i d lt none in omega (arith, (least_le m.front m.gauges).0)
    ]
