-- Steps at slots are steps of what is seen: lemmas.
use Rattle.std.proofs.Common.{if◌then◌else◌, ◌≡◌, ◌≢◌, ◌⊎◌, inl, inr, ℕ, zero, suc, ◌<◌, ◌≤◌, ◌==◌, Bool, true, false, Option, None, Some, List, [], ◌∷◌, ◌++◌, length, map, refl, sym, ◌∙◌, ap, subst, arith}
use Rattle.std.specs.Prelude.{All}
use Rattle.std.proofs.lemmas.List.Elements.{All-head, All-tail}
use Rattle.std.proofs.lemmas.List.{append-nil, append_assoc}
use Rattle.std.proofs.lemmas.Option.{same_Some}
use Rattle.std.proofs.lemmas.Bool.{cases_eq, cond-false, cond-true, eq-eqb, ne_eqb}
use Rattle.chain_model.specs.Replicas.{Dead, Feeder, Hop, Live, Replica, Message, Now, Old, Past, Put, Silent, Stage, Turn, lane_feeder, next_feeder, pass_on, reach, resent, send_again, sent, unknown}
use Rattle.version_table.specs.declared.kept.Kept.{Kept}
use Rattle.chain_model.specs.Holding.{joiner, with_joiner}
use Rattle.chain_model.specs.TurningLaws.{Alike, Quietly}
use Rattle.chain_model.specs.Turning.{turned_of}
use Rattle.chain_model.specs.Links.{AllSuit, AllTold, Became, DeliverShows, DropShows, Drops, HeadLearnShows, IsFresh, JoinShows, LearnShows, Learns, Net, Node, RemoveShows, Records, Sends, Stamped, Suits, Takes, TakesShows, WorkShows, Worked, Works, at_epoch, fed, feed, first_of, from_slot, hop_at, hop_of, hops_from, hops_of, is_end, is_slot, member_of, stage_of, stamped}
use Rattle.chain_model.specs.TurningSteps.{Down, HeadIsTold, IsTold, applied, is_last, is_untold, kept, moved, shifted, told, turned, without}

-- ---- messages of an epoch

at_same : (e : ℕ) (m : Stamped) (ms : List Stamped) → m.epoch ≡ e → at_epoch e (m ∷ ms) ≡ m.message ∷ at_epoch e ms
at_same e m ms is = cond-true (m.epoch == e) (m.message ∷ at_epoch e ms) (at_epoch e ms) (eq-eqb m.epoch e is)

at_other : (e : ℕ) (m : Stamped) (ms : List Stamped) → (m.epoch ≡ e → ⊥) → at_epoch e (m ∷ ms) ≡ at_epoch e ms
at_other e m ms is = cond-false (m.epoch == e) (m.message ∷ at_epoch e ms) (at_epoch e ms) (ne_eqb m.epoch e is)

at_append : (e : ℕ) (ms ns : List Stamped) → at_epoch e (ms ++ ns) ≡ at_epoch e ms ++ at_epoch e ns
at_append e [] ns = refl
at_append e (m ∷ ms) ns = elim (cases_eq m.epoch e) [
  | inl is ↦ at_same e m (ms ++ ns) is ∙ ap (λ (l : List Message). m.message ∷ l) (at_append e ms ns) ∙ ap (λ (l : List Message). l ++ at_epoch e ns) (sym (at_same e m ms is))
  | inr is ↦ at_other e m (ms ++ ns) is ∙ at_append e ms ns ∙ ap (λ (l : List Message). l ++ at_epoch e ns) (sym (at_other e m ms is))
]

at_stamped : (e : ℕ) (ms : List Message) → at_epoch e (stamped e ms) ≡ ms
at_stamped e [] = refl
at_stamped e (m ∷ ms) = at_same e (record { epoch = e; message = m }) (stamped e ms) refl ∙ ap (λ (l : List Message). m ∷ l) (at_stamped e ms)

at_none : (e f : ℕ) (ms : List Message) → (f ≡ e → ⊥) → at_epoch e (stamped f ms) ≡ []
at_none e f [] other = refl
at_none e f (m ∷ ms) other = at_other e (record { epoch = f; message = m }) (stamped f ms) other ∙ at_none e f ms other

at_sent : (e : ℕ) (l : List Stamped) (ms : List Message) → at_epoch e (l ++ stamped e ms) ≡ at_epoch e l ++ ms
at_sent e l ms = at_append e l (stamped e ms) ∙ ap (λ (x : List Message). at_epoch e l ++ x) (at_stamped e ms)

at_unsent : (e f : ℕ) (l : List Stamped) (ms : List Message) → (f ≡ e → ⊥) → at_epoch e (l ++ stamped f ms) ≡ at_epoch e l
at_unsent e f l ms other = at_append e l (stamped f ms) ∙ ap (λ (x : List Message). at_epoch e l ++ x) (at_none e f ms other) ∙ append-nil (at_epoch e l)

-- ---- stages

stage_now : (r e : ℕ) (t : Bool) → e ≡ r → stage_of r e t ≡ Now t
stage_now r e t is = cond-true (e == r) (Now t) (if suc e == r then Old t else Past) (eq-eqb e r is)

stage_old : (r e : ℕ) (t : Bool) → suc e ≡ r → stage_of r e t ≡ Old t
stage_old r e t is =
    cond-false (e == r) (Now t) (if suc e == r then Old t else Past) (ne_eqb e r (λ (same : e ≡ r). omega arith)) ∙ cond-true (suc e == r) (Old t) Past (eq-eqb (suc e) r is)

stage_past : (r e : ℕ) (t : Bool) → (e ≡ r → ⊥) → (suc e ≡ r → ⊥) → stage_of r e t ≡ Past
stage_past r e t not_now not_old = cond-false (e == r) (Now t) (if suc e == r then Old t else Past) (ne_eqb e r not_now) ∙ cond-false (suc e == r) (Old t) Past (ne_eqb (suc e) r not_old)

pick : (r e : ℕ) (t : Bool) → ((e ≡ r) × (stage_of r e t ≡ Now t)) ⊎ ((suc e ≡ r) × (stage_of r e t ≡ Old t)) ⊎ ((e ≢ r) × (suc e ≢ r) × (stage_of r e t ≡ Past))
pick r e t = elim (cases_eq e r) [
  | inl now ↦ inl (now, stage_now r e t now)
  | inr not_now ↦ elim (cases_eq (suc e) r) [
    | inl old ↦ inr (inl (old, stage_old r e t old))
    | inr not_old ↦ inr (inr (not_now, not_old, stage_past r e t not_now not_old))
  ]
]

slot_cases : (o : Option ℕ) (s : ℕ) → ((o ≡ Some s) × (is_slot o (Some s) ≡ true)) ⊎ ((o ≢ Some s) × (is_slot o (Some s) ≡ false))
slot_cases None s = inr (λ is. cc, refl)
slot_cases (Some p) s = elim (cases_eq p s) [ inl is ↦ inl (ap Some is, eq-eqb p s is) | inr apart ↦ inr (λ is. apart (same_Some p s is), ne_eqb p s apart) ]

-- ---- one hop

abbrev with_lanes : List Message → List Message → Hop → Hop
with_lanes lane next h = record h { lane = lane; next = next }

same_lanes : (h : Hop) (lane lane_too next next_too : List Message) → lane ≡ lane_too → next ≡ next_too → with_lanes lane next h ≡ with_lanes lane_too next_too h
same_lanes h lane lane_too next next_too one two = ap (λ (l : List Message). with_lanes l next h) one ∙ ap (λ (l : List Message). with_lanes lane_too l h) two

module _ (a b : Net) (s : ℕ) (sends : List Message) (step : Sends a b s sends) where
  sent_or : (y : ℕ) → y ≢ s → (b.links s y ≡ a.links s y ++ stamped (a.nodes s).epoch sends) ⊎ (b.links s y ≡ a.links s y)
  sent_or y other = elim (slot_cases (a.nodes s).below y) [ inl (is, found) ↦ inl (step.sent y other is) | inr (no_slot, found) ↦ inr (step.unsent y other no_slot) ]

  -- messages of another epoch than what is sent are as before
  link_kept : (e y : ℕ) → y ≢ s → ((a.nodes s).epoch ≡ e → ⊥) → at_epoch e (b.links s y) ≡ at_epoch e (a.links s y)
  link_kept e y other apart = elim (sent_or y other) [
    | inl is ↦ ap (at_epoch e) is ∙ at_unsent e (a.nodes s).epoch (a.links s y) sends apart
    | inr is ↦ ap (at_epoch e) is
  ]

  from_kept : (o : Option ℕ) (e y : ℕ) → y ≢ s → (o ≡ Some s → (a.nodes s).epoch ≡ e → ⊥) → at_epoch e (from_slot b.links o y) ≡ at_epoch e (from_slot a.links o y)
  from_kept None e y other apart = refl
  from_kept (Some x) e y other apart = elim (cases_eq x s) [
    | inl is ↦ subst (λ k. at_epoch e (b.links k y) ≡ at_epoch e (a.links k y)) (sym is) (link_kept e y other (apart (ap Some is)))
    | inr apart_x ↦ ap (at_epoch e) (step.links x y apart_x other)
  ]

  from_more : (o : Option ℕ) (e y : ℕ) → y ≢ s → o ≡ Some s → (a.nodes s).epoch ≡ e → (a.nodes s).below ≡ Some y → at_epoch e (from_slot b.links o y) ≡ at_epoch e (from_slot a.links o y) ++ sends
  from_more o e y other is same below =
      subst (λ (q : Option ℕ). at_epoch e (from_slot b.links q y) ≡ at_epoch e (from_slot a.links q y) ++ sends) (sym is)
      (ap (at_epoch e) (step.sent y other below) ∙ subst (λ k. at_epoch k (a.links s y ++ stamped (a.nodes s).epoch sends) ≡ at_epoch k (a.links s y) ++ sends) same (at_sent (a.nodes s).epoch (a.links s y) sends))

  to_here : (prev : Option ℕ) (y : ℕ) → y ≢ s → hop_at b prev y ≡ hop_of a.epoch b.links prev y (a.nodes y)
  to_here prev y other = ap (λ r. hop_of r b.links prev y (b.nodes y)) step.epoch ∙ ap (λ (n : Node). hop_of a.epoch b.links prev y n) (step.nodes y other)

  hop_kept : (prev : Option ℕ) (y : ℕ) → y ≢ s → prev ≢ Some s → Suits a s prev y → hop_at b prev y ≡ hop_at a prev y
  hop_kept prev y other apart suits =
      let n : Node = a.nodes y in
      to_here prev y other ∙
      same_lanes (hop_at a prev y) (at_epoch n.epoch (from_slot b.links n.above y)) (at_epoch n.epoch (from_slot a.links n.above y)) (if n.epoch == a.epoch then [] else at_epoch a.epoch (from_slot b.links prev y))
      (if n.epoch == a.epoch then [] else at_epoch a.epoch (from_slot a.links prev y))
      (from_kept n.above n.epoch y other (λ above same. apart (suits.close (sym same) above)))
      (ap (λ (l : List Message). if n.epoch == a.epoch then [] else l) (from_kept prev a.epoch y other (λ is. absurd (apart is))))

  -- the one below gets what is sent
  lane_fed : (y : ℕ) → y ≢ s → Suits a s (Some s) y → (a.nodes s).epoch ≤ a.epoch → a.epoch ≤ suc (a.nodes s).epoch →
      (let n : Node = a.nodes y in at_epoch n.epoch (from_slot b.links n.above y)
      ≡ fed (lane_feeder (stage_of a.epoch (a.nodes s).epoch (a.nodes s).turned) (is_slot n.above (Some s)) (stage_of a.epoch n.epoch n.turned)) sends (at_epoch n.epoch (from_slot a.links n.above y)))
  lane_fed y other suits within near = elim (pick a.epoch me.epoch me.turned) [
    | inl (now, here) ↦ elim (pick a.epoch n.epoch n.turned) [
      | inl (now_y, there) ↦ put (is_slot n.above (Some s)) (Now me.turned) (Now n.turned) here there refl
          (from_more n.above n.epoch y other (suits.above now_y) (now ∙ sym now_y) (suits.below now refl))
      | inr (inl (old_y, there)) ↦ put (is_slot n.above (Some s)) (Now me.turned) (Old n.turned) here there refl (from_kept n.above n.epoch y other (λ is same. omega arith))
      | inr (inr (not_now, not_old, there)) ↦ put (is_slot n.above (Some s)) (Now me.turned) Past here there refl (from_kept n.above n.epoch y other (λ is same. not_now (sym same ∙ now)))
    ]
    | inr (inl (old, here)) ↦ elim (pick a.epoch n.epoch n.turned) [
      | inl (now_y, there) ↦ put (is_slot n.above (Some s)) (Old me.turned) (Now n.turned) here there refl (from_kept n.above n.epoch y other (λ is same. omega arith))
      | inr (inl (old_y, there)) ↦ elim (slot_cases n.above s) [
        | inl (above, linked) ↦
            let same : me.epoch ≡ n.epoch = omega arith in
            put true (Old me.turned) (Old n.turned) here there linked (from_more n.above n.epoch y other above same (suits.agree (sym same) above))
        | inr (apart, linked) ↦ put false (Old me.turned) (Old n.turned) here there linked (from_kept n.above n.epoch y other (λ is same. apart is))
      ]
      | inr (inr (not_now, not_old, there)) ↦ put (is_slot n.above (Some s)) (Old me.turned) Past here there refl (from_kept n.above n.epoch y other (λ is same. not_old (ap suc (sym same) ∙ old)))
    ]
    | inr (inr (not_now, not_old, here)) ↦ absurd (elim (cases_eq me.epoch a.epoch) [ inl is ↦ not_now is | inr apart ↦ not_old (omega arith) ])
  ]
    where
      me : Node
      me = a.nodes s

      n : Node
      n = a.nodes y

      put : (linked : Bool) (st sg : Stage) → stage_of a.epoch (a.nodes s).epoch (a.nodes s).turned ≡ st → stage_of a.epoch (a.nodes y).epoch (a.nodes y).turned ≡ sg → is_slot (a.nodes y).above (Some s) ≡ linked
          → at_epoch (a.nodes y).epoch (from_slot b.links (a.nodes y).above y) ≡ fed (lane_feeder st linked sg) sends (at_epoch (a.nodes y).epoch (from_slot a.links (a.nodes y).above y))
          → at_epoch (a.nodes y).epoch (from_slot b.links (a.nodes y).above y)
          ≡ fed (lane_feeder (stage_of a.epoch (a.nodes s).epoch (a.nodes s).turned) (is_slot (a.nodes y).above (Some s)) (stage_of a.epoch (a.nodes y).epoch (a.nodes y).turned)) sends
          (at_epoch (a.nodes y).epoch (from_slot a.links (a.nodes y).above y))
      put linked st sg one two three is =
          let lane : List Message = at_epoch (a.nodes y).epoch (from_slot a.links (a.nodes y).above y) in
          is ∙ ap (λ (x : Stage). fed (lane_feeder x linked sg) sends lane) (sym one) ∙ ap (λ (x : Bool). fed (lane_feeder (stage_of a.epoch (a.nodes s).epoch (a.nodes s).turned) x sg) sends lane) (sym three)
          ∙ ap (λ (x : Stage). fed (lane_feeder (stage_of a.epoch (a.nodes s).epoch (a.nodes s).turned) (is_slot (a.nodes y).above (Some s)) x) sends lane) (sym two)

  next_fed : (y : ℕ) → y ≢ s → Suits a s (Some s) y → (a.nodes s).epoch ≤ a.epoch → a.epoch ≤ suc (a.nodes s).epoch →
      (if (a.nodes y).epoch == a.epoch then [] else at_epoch a.epoch (b.links s y))
      ≡ fed (next_feeder (stage_of a.epoch (a.nodes s).epoch (a.nodes s).turned) (stage_of a.epoch (a.nodes y).epoch (a.nodes y).turned)) sends
      (if (a.nodes y).epoch == a.epoch then [] else at_epoch a.epoch (a.links s y))
  next_fed y other suits within near = elim (pick a.epoch (a.nodes s).epoch (a.nodes s).turned) [
    | inl (now, here) ↦ elim (pick a.epoch (a.nodes y).epoch (a.nodes y).turned) [
      | inl (now_y, there) ↦ put (Now (a.nodes s).turned) (Now (a.nodes y).turned) here there (none b.links now_y ∙ sym (none a.links now_y))
      | inr (inl (old_y, there)) ↦ put (Now (a.nodes s).turned) (Old (a.nodes y).turned) here there (all b.links (λ (is : (a.nodes y).epoch ≡ a.epoch). omega arith) ∙ more now ∙ ap (λ (l : List Message). l ++ sends) (sym (all a.links (λ (is : (a.nodes y).epoch ≡ a.epoch). omega arith))))
      | inr (inr (not_now, not_old, there)) ↦ put (Now (a.nodes s).turned) Past here there (all b.links not_now ∙ more now ∙ ap (λ (l : List Message). l ++ sends) (sym (all a.links not_now)))
    ]
    | inr (inl (old, here)) ↦
        let same : (if (a.nodes y).epoch == a.epoch then [] else at_epoch a.epoch (b.links s y)) ≡ (if (a.nodes y).epoch == a.epoch then [] else at_epoch a.epoch (a.links s y)) =
        ap (λ (l : List Message). if (a.nodes y).epoch == a.epoch then [] else l) (link_kept a.epoch y other (λ (is : (a.nodes s).epoch ≡ a.epoch). omega arith)) in
        put (Old (a.nodes s).turned) (stage_of a.epoch (a.nodes y).epoch (a.nodes y).turned) here refl same
    | inr (inr (not_now, not_old, here)) ↦ absurd (elim (cases_eq (a.nodes s).epoch a.epoch) [ inl is ↦ not_now is | inr apart ↦ not_old (omega arith) ])
  ]
    where
      none : (links : ℕ → ℕ → List Stamped) → (a.nodes y).epoch ≡ a.epoch → (if (a.nodes y).epoch == a.epoch then [] else at_epoch a.epoch (links s y)) ≡ []
      none links now_y = cond-true ((a.nodes y).epoch == a.epoch) [] (at_epoch a.epoch (links s y)) (eq-eqb (a.nodes y).epoch a.epoch now_y)

      all : (links : ℕ → ℕ → List Stamped) → ((a.nodes y).epoch ≡ a.epoch → ⊥) → (if (a.nodes y).epoch == a.epoch then [] else at_epoch a.epoch (links s y)) ≡ at_epoch a.epoch (links s y)
      all links not_now = cond-false ((a.nodes y).epoch == a.epoch) [] (at_epoch a.epoch (links s y)) (ne_eqb (a.nodes y).epoch a.epoch not_now)

      more : (a.nodes s).epoch ≡ a.epoch → at_epoch a.epoch (b.links s y) ≡ at_epoch a.epoch (a.links s y) ++ sends
      more now = from_more (Some s) a.epoch y other refl now (suits.below now refl)

      put : (st sg : Stage) → stage_of a.epoch (a.nodes s).epoch (a.nodes s).turned ≡ st → stage_of a.epoch (a.nodes y).epoch (a.nodes y).turned ≡ sg
          → (if (a.nodes y).epoch == a.epoch then [] else at_epoch a.epoch (b.links s y)) ≡ fed (next_feeder st sg) sends (if (a.nodes y).epoch == a.epoch then [] else at_epoch a.epoch (a.links s y))
          → (if (a.nodes y).epoch == a.epoch then [] else at_epoch a.epoch (b.links s y))
          ≡ fed (next_feeder (stage_of a.epoch (a.nodes s).epoch (a.nodes s).turned) (stage_of a.epoch (a.nodes y).epoch (a.nodes y).turned)) sends
          (if (a.nodes y).epoch == a.epoch then [] else at_epoch a.epoch (a.links s y))
      put st sg one two is =
          let next : List Message = if (a.nodes y).epoch == a.epoch then [] else at_epoch a.epoch (a.links s y) in
          is ∙ ap (λ (x : Stage). fed (next_feeder x sg) sends next) (sym one) ∙ ap (λ (x : Stage). fed (next_feeder (stage_of a.epoch (a.nodes s).epoch (a.nodes s).turned) x) sends next) (sym two)

  -- ---- the whole chain

  hops_kept : (prev : Option ℕ) (ys : List ℕ) → prev ≢ Some s → AllSuit a s prev ys → hops_from b prev ys ≡ hops_from a prev ys
  hops_kept prev [] apart suits = refl
  hops_kept prev (y ∷ ys) apart (other, here, rest) =
      ap (λ (h : Hop). h ∷ hops_from b (Some y) ys) (hop_kept prev y other apart here) ∙ ap (λ (l : List Hop). hop_at a prev y ∷ l) (hops_kept (Some y) ys (λ is. other (same_Some y s is)) rest)

  hops_fed : (ys : List ℕ) → AllSuit a s (Some s) ys → (a.nodes s).epoch ≤ a.epoch → a.epoch ≤ suc (a.nodes s).epoch
      → hops_from b (Some s) ys ≡ feed (stage_of a.epoch (a.nodes s).epoch (a.nodes s).turned) sends (hops_from a (Some s) ys)
  hops_fed [] suits within near = refl
  hops_fed (y ∷ ys) (other, here, rest) within near =
      let h : Hop = hop_at a (Some s) y in
      let stage : Stage = stage_of a.epoch (a.nodes s).epoch (a.nodes s).turned in
      let g : Hop = with_lanes (fed (lane_feeder stage h.linked h.member.stage) sends h.lane) (fed (next_feeder stage h.member.stage) sends h.next) h in
      let first : hop_at b (Some s) y ≡ g = to_here (Some s) y other ∙ same_lanes h _ _ _ _ (lane_fed y other here within near) (next_fed y other here within near) in
      ap (λ (x : Hop). x ∷ hops_from b (Some y) ys) first ∙ ap (λ (l : List Hop). g ∷ l) (hops_kept (Some y) ys (λ is. other (same_Some y s is)) rest)

module _ (a b : Net) (s : ℕ) (taken : Message) (sends : List Message) (step : Takes a b s taken sends) where
  lane_taken : (prev : Option ℕ) → (hop_at a prev s).lane ≡ taken ∷ at_epoch (a.nodes s).epoch (b.links step.from s)
  lane_taken prev =
      let e : ℕ = (a.nodes s).epoch in
      ap (λ (o : Option ℕ). at_epoch e (from_slot a.links o s)) step.from_is ∙ ap (at_epoch e) step.front ∙ at_same e (record { epoch = e; message = taken }) (b.links step.from s) refl

  next_waits : (prev : Option ℕ) → prev ≢ Some s → (if (a.nodes s).epoch == a.epoch then [] else at_epoch a.epoch (from_slot b.links prev s)) ≡ (if (a.nodes s).epoch == a.epoch then [] else at_epoch a.epoch (from_slot a.links prev s))
  next_waits None apart = refl
  next_waits (Some q) apart = elim (cases_eq q step.from) [
    | inl is ↦ elim (cases_eq (a.nodes s).epoch a.epoch) [
      | inl now ↦ cond-true ((a.nodes s).epoch == a.epoch) [] (at_epoch a.epoch (b.links q s)) (eq-eqb (a.nodes s).epoch a.epoch now)
          ∙ sym (cond-true ((a.nodes s).epoch == a.epoch) [] (at_epoch a.epoch (a.links q s)) (eq-eqb (a.nodes s).epoch a.epoch now))
      | inr not_now ↦ ap (λ (l : List Message). if (a.nodes s).epoch == a.epoch then [] else l)
          (subst (λ k. at_epoch a.epoch (b.links k s) ≡ at_epoch a.epoch (a.links k s)) (sym is)
          (sym (ap (at_epoch a.epoch) step.front ∙ at_other a.epoch (record { epoch = (a.nodes s).epoch; message = taken }) (b.links step.from s) not_now)))
    ]
    | inr apart_from ↦ ap (λ (l : List Stamped). if (a.nodes s).epoch == a.epoch then [] else at_epoch a.epoch l) (step.to_it q apart_from (λ is. apart (ap Some is)))
  ]

  hop_taken : (prev : Option ℕ) → prev ≢ Some s → hop_at b prev s ≡ record (hop_at a prev s) { lane = at_epoch (a.nodes s).epoch (b.links step.from s); member = member_of b.epoch (b.nodes s) }
  hop_taken prev apart =
      let m : Replica = member_of b.epoch (b.nodes s) in
      let make = λ (lane next : List Message) (linked : Bool). let h : Hop = record { lane = lane; next = next; linked = linked; member = m } in h in
      let lane : at_epoch (b.nodes s).epoch (from_slot b.links (b.nodes s).above s) ≡ at_epoch (a.nodes s).epoch (b.links step.from s) =
      ap (λ e. at_epoch e (from_slot b.links (b.nodes s).above s)) step.sends_is.told ∙ ap (λ (o : Option ℕ). at_epoch (a.nodes s).epoch (from_slot b.links o s)) (step.sends_is.above ∙ step.from_is) in
      let next : (if (b.nodes s).epoch == b.epoch then [] else at_epoch b.epoch (from_slot b.links prev s)) ≡ (if (a.nodes s).epoch == a.epoch then [] else at_epoch a.epoch (from_slot a.links prev s)) =
      ap (λ e. if e == b.epoch then [] else at_epoch b.epoch (from_slot b.links prev s)) step.sends_is.told ∙ ap (λ r. if (a.nodes s).epoch == r then [] else at_epoch r (from_slot b.links prev s)) step.sends_is.epoch ∙ next_waits prev apart in
      let linked : is_slot (b.nodes s).above prev ≡ is_slot (a.nodes s).above prev = ap (λ (o : Option ℕ). is_slot o prev) step.sends_is.above in
      ap (λ (l : List Message). make l (if (b.nodes s).epoch == b.epoch then [] else at_epoch b.epoch (from_slot b.links prev s)) (is_slot (b.nodes s).above prev)) lane
      ∙ ap (λ (l : List Message). make (at_epoch (a.nodes s).epoch (b.links step.from s)) l (is_slot (b.nodes s).above prev)) next
      ∙ ap (λ (l : Bool). make (at_epoch (a.nodes s).epoch (b.links step.from s)) (if (a.nodes s).epoch == a.epoch then [] else at_epoch a.epoch (from_slot a.links prev s)) l) linked

  shows : (prev : Option ℕ) (us vs : List ℕ) → prev ≢ Some s → AllSuit a s prev us → AllSuit a s (Some s) vs → (a.nodes s).epoch ≤ a.epoch → a.epoch ≤ suc (a.nodes s).epoch
      → (i : ℕ) × Down i (Became taken sends (member_of a.epoch (a.nodes s)) (member_of b.epoch (b.nodes s))) (hops_from a prev (us ++ s ∷ vs)) (hops_from b prev (us ++ s ∷ vs))
  shows prev [] vs apart before after within near =
      let rest : List Message = at_epoch (a.nodes s).epoch (b.links step.from s) in
      let g : Hop = record (hop_at a prev s) { lane = rest; member = member_of b.epoch (b.nodes s) } in
      (zero, (rest, refl, lane_taken prev, ap (λ (h : Hop). h ∷ hops_from b (Some s) vs) (hop_taken prev apart) ∙ ap (λ (l : List Hop). g ∷ l) (hops_fed a b s sends step.sends_is vs after within near)))
  shows prev (y ∷ us) vs apart (other, here, before) after within near =
      let (i, down) = shows (Some y) us vs (λ is. other (same_Some y s is)) before after within near in
      (suc i, (hops_from b (Some y) (us ++ s ∷ vs), ap (λ (h : Hop). h ∷ hops_from b (Some y) (us ++ s ∷ vs)) (hop_kept a b s sends step.sends_is prev y other apart here), down))

pub takes_shows : TakesShows
takes_shows a b s taken sends us vs step chain before after within near =
    let (i, down) = shows a b s taken sends step None us vs (λ is. cc) before after within near in (
      i,
      subst (λ (l : List ℕ). Down i (Became taken sends (member_of a.epoch (a.nodes s)) (member_of b.epoch (b.nodes s))) (hops_of a) (hops_from b None l)) (sym (step.sends_is.chain ∙ chain))
          (subst (λ (l : List ℕ). Down i (Became taken sends (member_of a.epoch (a.nodes s)) (member_of b.epoch (b.nodes s))) (hops_from a None l) (hops_from b None (us ++ s ∷ vs))) (sym chain) down),
    )

-- ---- a step of its own

module _ (a b : Net) (s : ℕ) (sends : List Message) (step : Works a b s sends) where
  from_works : (o : Option ℕ) → o ≢ Some s → from_slot b.links o s ≡ from_slot a.links o s
  from_works None apart = refl
  from_works (Some x) apart = step.to_it x (λ is. apart (ap Some is))

  hop_worked : (prev : Option ℕ) → prev ≢ Some s → hop_at b prev s ≡ record (hop_at a prev s) { member = member_of b.epoch (b.nodes s) }
  hop_worked prev apart =
      let m : Replica = member_of b.epoch (b.nodes s) in
      let make = λ (lane next : List Message) (linked : Bool). let h : Hop = record { lane = lane; next = next; linked = linked; member = m } in h in
      let lane : at_epoch (b.nodes s).epoch (from_slot b.links (b.nodes s).above s) ≡ at_epoch (a.nodes s).epoch (from_slot a.links (a.nodes s).above s) =
      ap (λ e. at_epoch e (from_slot b.links (b.nodes s).above s)) step.sends_is.told ∙ ap (λ (o : Option ℕ). at_epoch (a.nodes s).epoch (from_slot b.links o s)) step.sends_is.above
      ∙ ap (at_epoch (a.nodes s).epoch) (from_works (a.nodes s).above step.apart) in
      let next : (if (b.nodes s).epoch == b.epoch then [] else at_epoch b.epoch (from_slot b.links prev s)) ≡ (if (a.nodes s).epoch == a.epoch then [] else at_epoch a.epoch (from_slot a.links prev s)) =
      ap (λ e. if e == b.epoch then [] else at_epoch b.epoch (from_slot b.links prev s)) step.sends_is.told ∙ ap (λ r. if (a.nodes s).epoch == r then [] else at_epoch r (from_slot b.links prev s)) step.sends_is.epoch
      ∙ ap (λ (l : List Stamped). if (a.nodes s).epoch == a.epoch then [] else at_epoch a.epoch l) (from_works prev apart) in
      let linked : is_slot (b.nodes s).above prev ≡ is_slot (a.nodes s).above prev = ap (λ (o : Option ℕ). is_slot o prev) step.sends_is.above in
      ap (λ (l : List Message). make l (if (b.nodes s).epoch == b.epoch then [] else at_epoch b.epoch (from_slot b.links prev s)) (is_slot (b.nodes s).above prev)) lane
      ∙ ap (λ (l : List Message). make (hop_at a prev s).lane l (is_slot (b.nodes s).above prev)) next ∙ ap (λ (l : Bool). make (hop_at a prev s).lane (hop_at a prev s).next l) linked

  works : (prev : Option ℕ) (us vs : List ℕ) → prev ≢ Some s → AllSuit a s prev us → AllSuit a s (Some s) vs → (a.nodes s).epoch ≤ a.epoch → a.epoch ≤ suc (a.nodes s).epoch
      → Down (length us) (Worked sends (member_of a.epoch (a.nodes s)) (member_of b.epoch (b.nodes s))) (hops_from a prev (us ++ s ∷ vs)) (hops_from b prev (us ++ s ∷ vs))
  works prev [] vs apart before after within near =
      let g : Hop = record (hop_at a prev s) { member = member_of b.epoch (b.nodes s) } in
      (refl, ap (λ (h : Hop). h ∷ hops_from b (Some s) vs) (hop_worked prev apart) ∙ ap (λ (l : List Hop). g ∷ l) (hops_fed a b s sends step.sends_is vs after within near))
  works prev (y ∷ us) vs apart (other, here, before) after within near = (
    hops_from b (Some y) (us ++ s ∷ vs),
    ap (λ (h : Hop). h ∷ hops_from b (Some y) (us ++ s ∷ vs)) (hop_kept a b s sends step.sends_is prev y other apart here),
    works (Some y) us vs (λ is. other (same_Some y s is)) before after within near,
  )

pub work_shows : WorkShows
work_shows a b s sends us vs step chain before after within near =
    subst (λ (l : List ℕ). Down (length us) (Worked sends (member_of a.epoch (a.nodes s)) (member_of b.epoch (b.nodes s))) (hops_of a) (hops_from b None l)) (sym (step.sends_is.chain ∙ chain))
    (subst (λ (l : List ℕ). Down (length us) (Worked sends (member_of a.epoch (a.nodes s)) (member_of b.epoch (b.nodes s))) (hops_from a None l) (hops_from b None (us ++ s ∷ vs))) (sym chain)
    (works a b s sends step None us vs (λ is. cc) before after within near))

-- ---- an old message

module _ (a b : Net) (p s : ℕ) (step : Drops a b p s) (within : (a.nodes s).epoch ≤ a.epoch) where
  not_seen : (e x : ℕ) → (a.nodes s).epoch ≤ e → at_epoch e (b.links x s) ≡ at_epoch e (a.links x s)
  not_seen e x le = elim (cases_eq x p) [
    | inl is ↦ subst (λ k. at_epoch e (b.links k s) ≡ at_epoch e (a.links k s)) (sym is)
        (sym (ap (at_epoch e) step.front ∙ at_other e step.dropped (b.links p s) (λ (same : step.dropped.epoch ≡ e). omega (arith, step.old))))
    | inr apart ↦ ap (at_epoch e) (step.to_it x apart)
  ]

  from_dropped : (o : Option ℕ) (e y : ℕ) → (y ≡ s → (a.nodes s).epoch ≤ e) → at_epoch e (from_slot b.links o y) ≡ at_epoch e (from_slot a.links o y)
  from_dropped None e y le = refl
  from_dropped (Some x) e y le = elim (cases_eq y s) [
    | inl is ↦ subst (λ k. at_epoch e (b.links x k) ≡ at_epoch e (a.links x k)) (sym is) (not_seen e x (le is))
    | inr apart ↦ ap (at_epoch e) (step.links x y apart)
  ]

  hops_dropped : (prev : Option ℕ) (ys : List ℕ) → hops_from b prev ys ≡ hops_from a prev ys
  hops_dropped prev [] = refl
  hops_dropped prev (y ∷ ys) =
      let n : Node = a.nodes y in
      let here : hop_at b prev y ≡ hop_of a.epoch b.links prev y n = ap (λ r. hop_of r b.links prev y (b.nodes y)) step.epoch ∙ ap (λ (m : Node). hop_of a.epoch b.links prev y m) (step.nodes y) in
      let same : hop_of a.epoch b.links prev y n ≡ hop_at a prev y =
      same_lanes (hop_at a prev y) _ _ _ _ (from_dropped n.above n.epoch y (λ is. subst (λ k. (a.nodes s).epoch ≤ (a.nodes k).epoch) (sym is) (omega arith)))
      (ap (λ (l : List Message). if n.epoch == a.epoch then [] else l) (from_dropped prev a.epoch y (λ is. within))) in
      ap (λ (h : Hop). h ∷ hops_from b (Some y) ys) (here ∙ same) ∙ ap (λ (l : List Hop). hop_at a prev y ∷ l) (hops_dropped (Some y) ys)

pub drop_shows : DropShows
drop_shows a b p s step within = hops_dropped a b p s step within None b.chain ∙ ap (hops_from a None) step.chain

-- ---- a delivery

pub down_weaker : (P Q : List Hop → List Hop → Type 0) → ((old new : List Hop) → P old new → Q old new) → (i : ℕ) (old new : List Hop) → Down i P old new → Down i Q old new
down_weaker P Q weaker zero old new step = weaker old new step
down_weaker P Q weaker (suc i) [] new step = step
down_weaker P Q weaker (suc i) (h ∷ hs) new (rest, is, step) = (rest, is, down_weaker P Q weaker i hs rest step)

fed_nothing : (f : Feeder) (ms : List Message) → fed f [] ms ≡ ms
fed_nothing (Live t) ms = append-nil ms
fed_nothing Silent ms = refl
fed_nothing Dead ms = refl

pub feed_nothing : (s : Stage) (hs : List Hop) → feed s [] hs ≡ hs
feed_nothing s [] = refl
feed_nothing s (h ∷ hs) = ap (λ (x : Hop). x ∷ hs) (same_lanes h _ _ _ _ (fed_nothing (lane_feeder s h.linked h.member.stage) h.lane) (fed_nothing (next_feeder s h.member.stage) h.next))

fed_put_lane : (s : Stage) (linked : Bool) (g : Stage) (p : Kept) (ms : List Message) → fed (lane_feeder s linked g) (if turned_of s then Put p ∷ [] else []) ms ≡ sent (lane_feeder s linked g) p ms
fed_put_lane (Now true) linked (Now u) p ms = refl
fed_put_lane (Now false) linked (Now u) p ms = append-nil ms
fed_put_lane (Now t) linked (Old u) p ms = refl
fed_put_lane (Now t) linked Past p ms = refl
fed_put_lane (Old t) linked (Now u) p ms = refl
fed_put_lane (Old true) true (Old u) p ms = refl
fed_put_lane (Old false) true (Old u) p ms = append-nil ms
fed_put_lane (Old t) false (Old u) p ms = refl
fed_put_lane (Old t) linked Past p ms = refl
fed_put_lane Past linked (Now u) p ms = refl
fed_put_lane Past linked (Old u) p ms = refl
fed_put_lane Past linked Past p ms = refl

fed_put_next : (s g : Stage) (p : Kept) (ms : List Message) → fed (next_feeder s g) (if turned_of s then Put p ∷ [] else []) ms ≡ sent (next_feeder s g) p ms
fed_put_next (Now t) (Now u) p ms = refl
fed_put_next (Now true) (Old u) p ms = refl
fed_put_next (Now false) (Old u) p ms = append-nil ms
fed_put_next (Now true) Past p ms = refl
fed_put_next (Now false) Past p ms = append-nil ms
fed_put_next (Old t) g p ms = refl
fed_put_next Past g p ms = refl

pub feed_put : (s : Stage) (p : Kept) (hs : List Hop) → feed s (if turned_of s then Put p ∷ [] else []) hs ≡ pass_on s p hs
feed_put s p [] = refl
feed_put s p (h ∷ hs) = ap (λ (x : Hop). x ∷ hs) (same_lanes h _ _ _ _ (fed_put_lane s h.linked h.member.stage p h.lane) (fed_put_next s h.member.stage p h.next))

fed_again : (f : Feeder) (again : List Kept) (ms : List Message) → fed f (map Put again ++ Turn ∷ []) ms ≡ resent f again ms
fed_again (Live t) again ms = sym (append_assoc ms (map Put again) (Turn ∷ []))
fed_again Silent again ms = refl
fed_again Dead again ms = refl

pub feed_again : (s : Stage) (again : List Kept) (hs : List Hop) → feed s (map Put again ++ Turn ∷ []) hs ≡ send_again s again hs
feed_again s again [] = refl
feed_again s again (h ∷ hs) = ap (λ (x : Hop). x ∷ hs) (same_lanes h _ _ _ _ (fed_again (lane_feeder s h.linked h.member.stage) again h.lane) (fed_again (next_feeder s h.member.stage) again h.next))

pub stage_turned : (r e : ℕ) (t : Bool) → e ≤ r → r ≤ suc e → turned_of (stage_of r e t) ≡ t
stage_turned r e t within near = elim (pick r e t) [
  | inl (now, is) ↦ ap turned_of is
  | inr (inl (old, is)) ↦ ap turned_of is
  | inr (inr (not_now, not_old, is)) ↦ absurd (elim (cases_eq e r) [ inl same ↦ not_now same | inr apart ↦ not_old (omega arith) ])
]

pub turns_stage : (r e : ℕ) (t : Bool) → stage_of r e true ≡ turned (stage_of r e t)
turns_stage r e t = elim (pick r e t) [
  | inl (now, is) ↦ stage_now r e true now ∙ ap turned (sym is)
  | inr (inl (old, is)) ↦ stage_old r e true old ∙ ap turned (sym is)
  | inr (inr (not_now, not_old, is)) ↦ stage_past r e true not_now not_old ∙ ap turned (sym is)
]

pub deliver_shows : DeliverShows
deliver_shows a b s us vs which chain before after within near runs = elim which [
  | inl (p, step, has, same) ↦
      let (i, down) = takes_shows a b s (Put p) [] us vs step chain before after within near in
      (i, down_weaker _ Quietly (over p has (ap (member_of b.epoch) same ∙ ap (λ r. member_of r n) step.sends_is.epoch)) i (hops_of a) (hops_of b) down)
  | inr (inl (p, step, next, same)) ↦
      let (i, down) = takes_shows a b s (Put p) (if n.turned then Put p ∷ [] else []) us vs step chain before after within near in
      (i, down_weaker _ Quietly (applies p next (ap (member_of b.epoch) same ∙ ap (λ r. member_of r (record n { table = record n.table { kept = n.table.kept ++ p ∷ [] } })) step.sends_is.epoch)) i (hops_of a) (hops_of b) down)
  | inr (inr (step, off, same)) ↦
      let (i, down) = takes_shows a b s Turn (map Put (unknown was) ++ Turn ∷ []) us vs step chain before after within near in (
        i,
        down_weaker _ Quietly
            (turns off (ap (member_of b.epoch) same ∙ ap (λ r. member_of r (record n { turned = true })) step.sends_is.epoch ∙ ap (λ (x : Stage). record was { stage = x }) (turns_stage a.epoch n.epoch n.turned)))
            i (hops_of a) (hops_of b) down,
      )
]
  where
    n : Node
    n = a.nodes s

    was : Replica
    was = member_of a.epoch (a.nodes s)

    over : (p : Kept) → p.number ≤ reach (member_of a.epoch (a.nodes s)) → member_of b.epoch (b.nodes s) ≡ member_of a.epoch (a.nodes s) → (old new : List Hop)
        → Became (Put p) [] (member_of a.epoch (a.nodes s)) (member_of b.epoch (b.nodes s)) old new → Quietly old new
    over p has same [] new step = absurd step
    over p has same (h ∷ hs) new (rest, is, lane, new_is) =
        let g : Hop = record h { lane = rest } in
        inl (
          Put p,
          rest,
          ap (λ (m : Replica). m.stopped) is ∙ runs,
          lane,
          subst (λ (m : Replica). p.number ≤ reach m) (sym is) has,
          new_is ∙ ap (λ (m : Replica). record g { member = m } ∷ feed h.member.stage [] hs) (same ∙ sym is) ∙ ap (λ (l : List Hop). g ∷ l) (feed_nothing h.member.stage hs),
        )

    applies : (p : Kept) → p.number ≡ suc (reach (member_of a.epoch (a.nodes s))) → member_of b.epoch (b.nodes s) ≡ applied p (member_of a.epoch (a.nodes s)) → (old new : List Hop)
        → Became (Put p) (if (a.nodes s).turned then Put p ∷ [] else []) (member_of a.epoch (a.nodes s)) (member_of b.epoch (b.nodes s)) old new → Quietly old new
    applies p next same [] new step = absurd step
    applies p next same (h ∷ hs) new (rest, is, lane, new_is) =
        let g : Hop = record h { lane = rest; member = applied p h.member } in
        let on : turned_of h.member.stage ≡ (a.nodes s).turned = ap (λ (m : Replica). turned_of m.stage) is ∙ stage_turned a.epoch (a.nodes s).epoch (a.nodes s).turned within near in
        inr (inl (
          p,
          rest,
          ap (λ (m : Replica). m.stopped) is ∙ runs,
          lane,
          subst (λ (m : Replica). p.number ≡ suc (reach m)) (sym is) next,
          new_is ∙ ap (λ (m : Replica). record g { member = m } ∷ feed h.member.stage (if (a.nodes s).turned then Put p ∷ [] else []) hs) (same ∙ ap (applied p) (sym is))
              ∙ ap (λ (t : Bool). g ∷ feed h.member.stage (if t then Put p ∷ [] else []) hs) (sym on) ∙ ap (λ (l : List Hop). g ∷ l) (feed_put h.member.stage p hs),
        ))

    turns : (a.nodes s).turned ≡ false → member_of b.epoch (b.nodes s) ≡ record (member_of a.epoch (a.nodes s)) { stage = turned (member_of a.epoch (a.nodes s)).stage } → (old new : List Hop)
        → Became Turn (map Put (unknown (member_of a.epoch (a.nodes s))) ++ Turn ∷ []) (member_of a.epoch (a.nodes s)) (member_of b.epoch (b.nodes s)) old new → Quietly old new
    turns off same [] new step = absurd step
    turns off same (h ∷ hs) new (rest, is, lane, new_is) =
        let g : Hop = record h { lane = rest; member = record h.member { stage = turned h.member.stage } } in
        inr (inr (inl (
          rest,
          ap (λ (m : Replica). m.stopped) is ∙ runs,
          lane,
          ap (λ (m : Replica). turned_of m.stage) is ∙ stage_turned a.epoch (a.nodes s).epoch (a.nodes s).turned within near ∙ off,
          new_is ∙ ap (λ (m : Replica). record g { member = m } ∷ feed h.member.stage (map Put (unknown (member_of a.epoch (a.nodes s))) ++ Turn ∷ []) hs) (same ∙ ap (λ (m : Replica). record m { stage = turned m.stage }) (sym is))
              ∙ ap (λ (m : Replica). g ∷ feed h.member.stage (map Put (unknown m) ++ Turn ∷ []) hs) (sym is) ∙ ap (λ (l : List Hop). g ∷ l) (feed_again h.member.stage (unknown h.member) hs),
        )))

-- ---- the next record

stage_shifted : (r e : ℕ) (t : Bool) → e ≤ r → stage_of (suc r) e t ≡ shifted (stage_of r e t)
stage_shifted r e t within = elim (pick r e t) [
  | inl (now, is) ↦ stage_old (suc r) e t (ap suc now) ∙ ap shifted (sym is)
  | inr (inl (old, is)) ↦ stage_past (suc r) e t (λ (same : e ≡ suc r). omega arith) (λ (same : suc e ≡ suc r). omega arith) ∙ ap shifted (sym is)
  | inr (inr (not_now, not_old, is)) ↦ stage_past (suc r) e t (λ (same : e ≡ suc r). omega arith) (λ (same : suc e ≡ suc r). not_now (omega arith)) ∙ ap shifted (sym is)
]

-- one epoch on, without a message of that
record IsNextEpoch (a b : Net) : Type 0 where
  epoch : b.epoch ≡ suc a.epoch
  links : (x y : ℕ) → b.links x y ≡ a.links x y
  none : (x y : ℕ) → at_epoch (suc a.epoch) (a.links x y) ≡ []

module _ (a b : Net) (step : IsNextEpoch a b) where
  member_shifted : (y : ℕ) → b.nodes y ≡ a.nodes y → (a.nodes y).epoch ≤ a.epoch → member_of b.epoch (b.nodes y) ≡ record (member_of a.epoch (a.nodes y)) { stage = shifted (stage_of a.epoch (a.nodes y).epoch (a.nodes y).turned) }
  member_shifted y same within =
      ap (member_of b.epoch) same ∙ ap (λ r. member_of r (a.nodes y)) step.epoch
      ∙ ap (λ (x : Stage). record (member_of a.epoch (a.nodes y)) { stage = x }) (stage_shifted a.epoch (a.nodes y).epoch (a.nodes y).turned within)

  from_none : (o : Option ℕ) (y : ℕ) → at_epoch (suc a.epoch) (from_slot b.links o y) ≡ []
  from_none None y = refl
  from_none (Some x) y = ap (at_epoch (suc a.epoch)) (step.links x y) ∙ step.none x y

  from_same : (o : Option ℕ) (y : ℕ) → from_slot b.links o y ≡ from_slot a.links o y
  from_same None y = refl
  from_same (Some x) y = step.links x y

  -- a running one keeps its lane, with another one before it perhaps
  hop_moved : (prev next_prev : Option ℕ) (y : ℕ) (linked : Bool) → b.nodes y ≡ a.nodes y → (a.nodes y).epoch ≡ a.epoch → is_slot (a.nodes y).above next_prev ≡ linked → hop_at b next_prev y ≡ moved linked (hop_at a prev y)
  hop_moved prev next_prev y linked same now is =
      let n : Node = a.nodes y in
      let k : Replica = record (member_of a.epoch n) { stage = shifted (stage_of a.epoch n.epoch n.turned) } in
      let make = λ (lane next : List Message) (linked : Bool) (m : Replica). let h : Hop = record { lane = lane; next = next; linked = linked; member = m } in h in
      let lane : at_epoch n.epoch (from_slot b.links n.above y) ≡ at_epoch n.epoch (from_slot a.links n.above y) = ap (at_epoch n.epoch) (from_same n.above y) in
      let next_b : (if n.epoch == b.epoch then [] else at_epoch b.epoch (from_slot b.links next_prev y)) ≡ [] =
      cond-false (n.epoch == b.epoch) [] (at_epoch b.epoch (from_slot b.links next_prev y)) (ne_eqb n.epoch b.epoch (λ (other : n.epoch ≡ b.epoch). omega (arith, step.epoch)))
      ∙ ap (λ r. at_epoch r (from_slot b.links next_prev y)) step.epoch ∙ from_none next_prev y in
      let next_a : (if n.epoch == a.epoch then [] else at_epoch a.epoch (from_slot a.links prev y)) ≡ [] = cond-true (n.epoch == a.epoch) [] (at_epoch a.epoch (from_slot a.links prev y)) (eq-eqb n.epoch a.epoch now) in
      ap (λ (x : Node). record (hop_of b.epoch b.links next_prev y x) { member = member_of b.epoch (b.nodes y) }) same
      ∙ ap (λ (x : Replica). make (at_epoch n.epoch (from_slot b.links n.above y)) (if n.epoch == b.epoch then [] else at_epoch b.epoch (from_slot b.links next_prev y)) (is_slot n.above next_prev) x) (member_shifted y same (omega arith))
      ∙ ap (λ (l : List Message). make l (if n.epoch == b.epoch then [] else at_epoch b.epoch (from_slot b.links next_prev y)) (is_slot n.above next_prev) k) lane
      ∙ ap (λ (l : List Message). make (at_epoch n.epoch (from_slot a.links n.above y)) l (is_slot n.above next_prev) k) (next_b ∙ sym next_a)
      ∙ ap (λ (l : Bool). make (at_epoch n.epoch (from_slot a.links n.above y)) (if n.epoch == a.epoch then [] else at_epoch a.epoch (from_slot a.links prev y)) l k) is

  module _ (nodes : (x : ℕ) → b.nodes x ≡ a.nodes x) where
    -- below the one that left nothing else changes
    kept_below : (prev : Option ℕ) (ys : List ℕ) → AllTold a prev ys → Alike (map kept (hops_from a prev ys)) (hops_from b prev ys)
    kept_below prev [] all = tt
    kept_below prev (y ∷ ys) (told, within, rest) = (
      member_shifted y (nodes y) within,
      λ runs. hop_moved prev prev y (is_slot (a.nodes y).above prev) (nodes y) (told runs).0 refl,
      kept_below (Some y) ys rest,
    )

    below_left : (m : ℕ) (prev : Option ℕ) (ys : List ℕ) → prev ≢ Some m → AllTold a (Some m) ys → Alike (without zero (hop_at a prev m ∷ hops_from a (Some m) ys)) (hops_from b prev ys)
    below_left m prev [] apart all = tt
    below_left m prev (y ∷ ys) apart (told, within, rest) = (
      member_shifted y (nodes y) within,
      λ runs. hop_moved (Some m) prev y false (nodes y) (told runs).0 (ap (λ (o : Option ℕ). is_slot o prev) (told runs).1 ∙ off prev apart),
      kept_below (Some y) ys rest,
    )
      where
        off : (prev : Option ℕ) → prev ≢ Some m → is_slot (Some m) prev ≡ false
        off None apart = refl
        off (Some q) apart = ne_eqb m q (λ is. apart (ap Some (sym is)))

    removed : (m : ℕ) (vs : List ℕ) (prev : Option ℕ) (xs : List ℕ) → prev ≢ Some m → All (λ x. x ≢ m) xs → AllTold a prev (xs ++ m ∷ vs) → Alike (without (length xs) (hops_from a prev (xs ++ m ∷ vs))) (hops_from b prev (xs ++ vs))
    removed m vs prev [] apart others (told, within, rest) = below_left m prev vs apart rest
    removed m vs prev (y ∷ xs) apart others (told, within, rest) = (
      member_shifted y (nodes y) within,
      λ runs. hop_moved prev prev y (is_slot (a.nodes y).above prev) (nodes y) (told runs).0 refl,
      removed m vs (Some y) xs (λ is. All-head (λ x. x ≢ m) y xs others (same_Some y m is)) (All-tail (λ x. x ≢ m) y xs others) rest,
    )

  -- one behind the tail has the epoch before, and nothing is sent to it
  module _ (j k : ℕ) (nodes : (x : ℕ) → x ≢ j → b.nodes x ≡ a.nodes x) (fresh : IsFresh (b.nodes j) a.epoch k) where
    fresh_hop : (t : ℕ) → hop_at b (Some t) j ≡ joiner k
    fresh_hop t =
        let next : (if a.epoch == b.epoch then [] else at_epoch b.epoch (b.links t j)) ≡ [] =
        cond-false (a.epoch == b.epoch) [] (at_epoch b.epoch (b.links t j)) (ne_eqb a.epoch b.epoch (λ (is : a.epoch ≡ b.epoch). omega (arith, step.epoch))) ∙ ap (λ r. at_epoch r (b.links t j)) step.epoch ∙ from_none (Some t) j in
        let make = λ (next : List Message) (stage : Stage).
        let h : Hop = record { lane = []; next = next; linked = false; member = record { stage = stage; stopped = false; ends = false; holds = false; table = record { forgotten = k; kept = [] }; known = k } } in h in
        ap (hop_of b.epoch b.links (Some t) j) fresh ∙ ap (λ (l : List Message). make l (stage_of b.epoch a.epoch true)) next ∙ ap (make []) (stage_old b.epoch a.epoch true (sym step.epoch))

    joined : (t : ℕ) (prev : Option ℕ) (xs : List ℕ) → All (λ x. x ≢ j) (xs ++ t ∷ []) → AllTold a prev (xs ++ t ∷ []) → Alike (with_joiner k (hops_from a prev (xs ++ t ∷ []))) (hops_from b prev (xs ++ t ∷ j ∷ []))
    joined t prev [] others (told, within, rest) =
        let last : hop_at b (Some t) j ≡ joiner k = fresh_hop t in
        let same : b.nodes t ≡ a.nodes t = nodes t (All-head (λ x. x ≢ j) t [] others) in
        (member_shifted t same within, λ runs. hop_moved prev prev t (is_slot (a.nodes t).above prev) same (told runs).0 refl, (ap (λ (h : Hop). h.member) last, λ runs. last, tt))
    joined t prev (y ∷ []) others (told, within, rest) =
        let same : b.nodes y ≡ a.nodes y = nodes y (All-head (λ x. x ≢ j) y (t ∷ []) others) in
        (member_shifted y same within, λ runs. hop_moved prev prev y (is_slot (a.nodes y).above prev) same (told runs).0 refl, joined t (Some y) [] (All-tail (λ x. x ≢ j) y (t ∷ []) others) rest)
    joined t prev (y ∷ x ∷ xs) others (told, within, rest) =
        let same : b.nodes y ≡ a.nodes y = nodes y (All-head (λ x. x ≢ j) y (x ∷ xs ++ t ∷ []) others) in
        (member_shifted y same within, λ runs. hop_moved prev prev y (is_slot (a.nodes y).above prev) same (told runs).0 refl, joined t (Some y) (x ∷ xs) (All-tail (λ x. x ≢ j) y (x ∷ xs ++ t ∷ []) others) rest)

-- the next record of the same members
pub same_shows : (a b : Net) → Records a b → AllTold a None a.chain → b.chain ≡ a.chain → Alike (map kept (hops_of a)) (hops_of b)
same_shows a b step told same =
    subst (λ (l : List ℕ). Alike (map kept (hops_of a)) (hops_from b None l)) (sym same) (kept_below a b (record { epoch = step.epoch; links = step.links; none = step.none }) step.nodes None a.chain told)

pub join_shows : JoinShows
join_shows a b told = (
  λ us t j k step fresh others before after.
      subst (λ (l : List ℕ). Alike (with_joiner k (hops_from a None l)) (hops_of b)) (sym before)
      (subst (λ (l : List ℕ). Alike (with_joiner k (hops_from a None (us ++ t ∷ []))) (hops_from b None l)) (sym after)
      (joined a b (record { epoch = step.epoch; links = step.links; none = step.none }) j k step.nodes fresh t None us (subst (All (λ x. x ≢ j)) before others) (subst (AllTold a None) before told))),
  λ step same. same_shows a b step told same,
)

pub remove_shows : RemoveShows
remove_shows a b us vs m step told before after others =
    subst (λ (l : List ℕ). Alike (without (length us) (hops_from a None l)) (hops_of b)) (sym before)
    (subst (λ (l : List ℕ). Alike (without (length us) (hops_from a None (us ++ m ∷ vs))) (hops_from b None l)) (sym after)
    (removed a b (record { epoch = step.epoch; links = step.links; none = step.none }) step.nodes m vs None us (λ is. cc) others (subst (AllTold a None) before told)))

-- ---- being told

pub untold_stage : (r e : ℕ) (t : Bool) → e < r → is_untold (stage_of r e t) ≡ true
untold_stage r e t before = elim (pick r e t) [
  | inl (now, is) ↦ absurd (omega arith)
  | inr (inl (old, is)) ↦ ap is_untold is
  | inr (inr (not_now, not_old, is)) ↦ ap is_untold is
]

pub told_stage : (r e : ℕ) (t : Bool) → e ≡ r → is_untold (stage_of r e t) ≡ false
told_stage r e t is = ap is_untold (stage_now r e t is)

module _ (a b : Net) (prev_s : Option ℕ) (s : ℕ) (vs : List ℕ) (step : Learns a b prev_s s vs) where
  from_learns : (o : Option ℕ) (y : ℕ) → from_slot b.links o y ≡ from_slot a.links o y
  from_learns None y = refl
  from_learns (Some x) y = step.links x y

  hop_stays : (prev : Option ℕ) (y : ℕ) → y ≢ s → hop_at b prev y ≡ hop_at a prev y
  hop_stays prev y other =
      let n : Node = a.nodes y in
      ap (λ r. hop_of r b.links prev y (b.nodes y)) step.epoch ∙ ap (λ (x : Node). hop_of a.epoch b.links prev y x) (step.nodes y other)
      ∙ same_lanes (hop_at a prev y) _ _ _ _ (ap (at_epoch n.epoch) (from_learns n.above y)) (ap (λ (l : List Stamped). if n.epoch == a.epoch then [] else at_epoch a.epoch l) (from_learns prev y))

  hops_stay : (prev : Option ℕ) (ys : List ℕ) → All (λ x. x ≢ s) ys → hops_from b prev ys ≡ hops_from a prev ys
  hops_stay prev [] others = refl
  hops_stay prev (y ∷ ys) others =
      ap (λ (h : Hop). h ∷ hops_from b (Some y) ys) (hop_stays prev y (All-head (λ x. x ≢ s) y ys others))
      ∙ ap (λ (l : List Hop). hop_at a prev y ∷ l) (hops_stay (Some y) ys (All-tail (λ x. x ≢ s) y ys others))

  hop_told : hop_at b prev_s s ≡ (let h : Hop = hop_at a prev_s s in record h { lane = h.next; next = []; linked = true; member = told false (hops_from a (Some s) vs) h.member })
  hop_told =
      let n : Node = a.nodes s in
      let m : Node = record n { epoch = a.epoch; turned = false; above = prev_s; below = first_of vs; ends = is_end vs; holds = false } in
      let make = λ (lane next : List Message) (linked : Bool) (stage : Stage) (ends : Bool).
      let h : Hop = record { lane = lane; next = next; linked = linked; member = record (member_of a.epoch n) { stage = stage; ends = ends; holds = false } } in h in
      let waits : (if n.epoch == a.epoch then [] else at_epoch a.epoch (from_slot a.links prev_s s)) ≡ at_epoch a.epoch (from_slot a.links prev_s s) =
      cond-false (n.epoch == a.epoch) [] (at_epoch a.epoch (from_slot a.links prev_s s)) (ne_eqb n.epoch a.epoch (λ (same : n.epoch ≡ a.epoch). omega (arith, step.untold))) in
      let nothing : (if a.epoch == a.epoch then [] else at_epoch a.epoch (from_slot b.links prev_s s)) ≡ [] = cond-true (a.epoch == a.epoch) [] (at_epoch a.epoch (from_slot b.links prev_s s)) (eq-eqb a.epoch a.epoch refl) in
      ap (λ r. hop_of r b.links prev_s s (b.nodes s)) step.epoch ∙ ap (λ (x : Node). hop_of a.epoch b.links prev_s s x) step.node
      ∙ ap (λ (l : List Message). make l (if a.epoch == a.epoch then [] else at_epoch a.epoch (from_slot b.links prev_s s)) (is_slot prev_s prev_s) (stage_of a.epoch a.epoch false) (is_end vs)) (ap (at_epoch a.epoch) (from_learns prev_s s) ∙ sym waits)
      ∙ ap (λ (l : List Message). make (hop_at a prev_s s).next l (is_slot prev_s prev_s) (stage_of a.epoch a.epoch false) (is_end vs)) nothing
      ∙ ap (λ (l : Bool). make (hop_at a prev_s s).next [] l (stage_of a.epoch a.epoch false) (is_end vs)) (own_slot prev_s)
      ∙ ap (λ (x : Stage). make (hop_at a prev_s s).next [] true x (is_end vs)) (stage_now a.epoch a.epoch false refl) ∙ ap (make (hop_at a prev_s s).next [] true (Now false)) (ends_are vs)
    where
      ends_are : (ys : List ℕ) → is_end ys ≡ is_last (hops_from a (Some s) ys)
      ends_are [] = refl
      ends_are (y ∷ ys) = refl

      own_slot : (o : Option ℕ) → is_slot o o ≡ true
      own_slot None = refl
      own_slot (Some x) = eq-eqb x x refl

pub learn_shows : LearnShows
learn_shows a b us vs p s step chain others =
    subst (λ (l : List ℕ). Down (suc (length us)) IsTold (hops_of a) (hops_from b None l)) (sym (step.chain ∙ chain))
    (subst (λ (l : List ℕ). Down (suc (length us)) IsTold (hops_from a None l) (hops_from b None (us ++ p ∷ s ∷ vs))) (sym chain) (learned None us others))
  where
    learned : (prev : Option ℕ) (xs : List ℕ) → All (λ x. x ≢ s) (xs ++ p ∷ vs) → Down (suc (length xs)) IsTold (hops_from a prev (xs ++ p ∷ s ∷ vs)) (hops_from b prev (xs ++ p ∷ s ∷ vs))
    learned prev [] others =
        let h : Hop = hop_at a (Some p) s in
        let g : Hop = record h { lane = h.next; next = []; linked = true; member = told false (hops_from a (Some s) vs) h.member } in (
          hops_from b (Some p) (s ∷ vs),
          ap (λ (x : Hop). x ∷ hops_from b (Some p) (s ∷ vs)) (hop_stays a b (Some p) s vs step prev p (All-head (λ x. x ≢ s) p vs others)),
          (
            step.runs,
            untold_stage a.epoch (a.nodes s).epoch (a.nodes s).turned step.untold,
            ap (λ (x : Hop). x ∷ hops_from b (Some s) vs) (hop_told a b (Some p) s vs step) ∙ ap (λ (l : List Hop). g ∷ l) (hops_stay a b (Some p) s vs step (Some s) vs (All-tail (λ x. x ≢ s) p vs others)),
          ),
        )
    learned prev (y ∷ xs) others = (
      hops_from b (Some y) (xs ++ p ∷ s ∷ vs),
      ap (λ (x : Hop). x ∷ hops_from b (Some y) (xs ++ p ∷ s ∷ vs)) (hop_stays a b (Some p) s vs step prev y (All-head (λ x. x ≢ s) y (xs ++ p ∷ vs) others)),
      learned (Some y) xs (All-tail (λ x. x ≢ s) y (xs ++ p ∷ vs) others),
    )

pub head_learn_shows : HeadLearnShows
head_learn_shows a b c s vs step chain others suit works node =
    let within : (c.nodes s).epoch ≤ c.epoch = omega (arith, step.epoch, ap (λ (n : Node). n.epoch) step.node) in
    let near : c.epoch ≤ suc (c.nodes s).epoch = omega (arith, step.epoch, ap (λ (n : Node). n.epoch) step.node) in
    let sends : List Message = map Put (unknown (member_of a.epoch (a.nodes s))) ++ Turn ∷ [] in
    let hs : List Hop = hops_from a (Some s) vs in
    let h : Hop = hop_at a None s in
    let g : Hop = record h { lane = h.next; next = []; linked = true; member = told true hs h.member } in
    let down : Down 0 (Worked sends (member_of c.epoch (c.nodes s)) (member_of b.epoch (b.nodes s))) (hops_of c) (hops_of b) = work_shows c b s sends [] vs works (step.chain ∙ chain) tt suit within near in
    let seen : hops_of c ≡ hop_at c None s ∷ hops_from c (Some s) vs = ap (hops_from c None) (step.chain ∙ chain) in
    let (was, is) = subst (λ (l : List Hop). Worked sends (member_of c.epoch (c.nodes s)) (member_of b.epoch (b.nodes s)) l (hops_of b)) seen down in
    let n : Node = a.nodes s in
    let m : Node = record n { epoch = a.epoch; turned = true; above = None; below = first_of vs; ends = is_end vs; holds = false } in
    let k : Replica = member_of a.epoch n in
    let member : member_of b.epoch (b.nodes s) ≡ told true hs k =
    ap (member_of b.epoch) (node ∙ ap (λ (x : Node). record x { turned = true }) step.node) ∙ ap (λ r. member_of r m) (works.sends_is.epoch ∙ step.epoch)
    ∙ ap (λ (x : Stage). record k { stage = x; ends = is_end vs; holds = false }) (stage_now a.epoch a.epoch true refl) ∙ ap (λ (x : Bool). record k { stage = Now true; ends = x; holds = false }) (ends_are vs) in
    let first : hop_at c None s ≡ record g { member = told false hs k } = hop_told a c None s vs step in
    let rest : hops_from c (Some s) vs ≡ hs = hops_stay a c None s vs step (Some s) vs others in
    let new_is : hops_of b ≡ g ∷ send_again (Now false) (unknown k) hs =
    is ∙ ap (λ (x : Hop). record x { member = member_of b.epoch (b.nodes s) } ∷ feed x.member.stage sends (hops_from c (Some s) vs)) first
    ∙ ap (λ (x : Replica). record g { member = x } ∷ feed (Now false) sends (hops_from c (Some s) vs)) member ∙ ap (λ (l : List Hop). g ∷ feed (Now false) sends l) rest
    ∙ ap (λ (l : List Hop). g ∷ l) (feed_again (Now false) (unknown k) hs) in
    subst (λ (l : List ℕ). HeadIsTold (hops_from a None l) (hops_of b)) (sym chain) (step.runs, untold_stage a.epoch n.epoch n.turned step.untold, new_is)
  where
    ends_are : (ys : List ℕ) → is_end ys ≡ is_last (hops_from a (Some s) ys)
    ends_are [] = refl
    ends_are (y ∷ ys) = refl
