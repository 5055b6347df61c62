-- What the orders by which a disk enters a chain leave.
use Rattle.std.proofs.Common.{List, ◌≡◌, ◌∙◌, ap, inl, inr, ℕ, ◌∷◌, refl, subst, sym}
use Rattle.std.specs.Prelude.{All, IsSomeAnd, None, Option, Some}
use Rattle.std.proofs.lemmas.Bool.{both_ways}
use Rattle.chain.specs.Chain.{Chained}
use Rattle.chain.specs.Joining.{MayBeginJoin, MayEndJoin}
use Rattle.gate_journal.specs.Receipt.{Receipt}
use Rattle.local_store.specs.About.{About}
use Rattle.manager.specs.Manager.{done_of, next_of}
use Rattle.manager.specs.Orders.{is_record}
use Rattle.manager.specs.declared.order.Order.TheVariants.{CountIn, Record as RecordOrder}
use Rattle.world.specs.Joining.{BeginsJoin, CountsIn, CountsNobody, EndsNoJoin, MayEndWithJoiner}
use Rattle.world.specs.Management.{Managing}
use Rattle.world.specs.World as worlds
use Rattle.joining.specs.Rebuilding.{KeepStill, IsBehindCopying, IsLeft, IsQuiet, IsSteady}
use Rattle.joining.specs.Refusing.{IsCounted, IsNotCounted}
use Rattle.joining.proofs.Orders.{begun_next, done_left, next_is}

-- ---- what is left of the chain

pub left_still : {S : Type 0} (c : Chained S) → IsQuiet c → IsLeft c c
left_still c quiet = record { recorded = refl; front = refl; many = refl; quiet = quiet }

pub steady_left : {S : Type 0} (old new : Chained S) → IsSteady old new → IsLeft old new
steady_left old new steady = record { recorded = ap (λ (c : Chained _). c.recorded) steady.are; front = ap (λ (c : Chained _). c.words.front) steady.are; many = steady.many; quiet = steady.quiet }

pub left_then : {S : Type 0} (old mid new : Chained S) → IsLeft old mid → IsLeft mid new → IsLeft old new
left_then old mid new first second = record { recorded = second.recorded ∙ first.recorded; front = second.front ∙ first.front; many = second.many ∙ first.many; quiet = second.quiet }

-- the same members keep what they kept
pub same_members : {S : Type 0} (keeps : S → List ℕ → Type 0) (old new : Chained S) → new.members ≡ old.members → KeepStill keeps old new
same_members keeps old new same volume all = subst (All (λ m. keeps m.node.store volume)) (sym same) all

-- what holds of what is there, and follows from this
weaker_there : {A : Type 0} (P Q : A → Type 0) (o : Option A) → IsSomeAnd o P → ((a : A) → P a → Q a) → IsSomeAnd o Q
weaker_there P Q None holds all = absurd holds
weaker_there P Q (Some a) holds all = all a holds

module _ {S C : Type 0} (about : S → About) (slot : ℕ) where
  -- ---- it is counted
  module _ (store : S) (receipt : Receipt) (m0 m1 : Managing C) (w0 w1 : worlds.Seen S) (behind : IsBehindCopying slot m0.manager) where
    counts_next : next_of m0.manager ≡ CountIn slot
    counts_next = next_is (CountIn slot) (RecordOrder ∷ behind.0) m0.manager behind.1

    -- nothing changed
    pub not_counted : CountsNobody about store receipt m0 w0 → m1 ≡ m0 → w1 ≡ w0 → IsNotCounted about slot store receipt m1 w1
    not_counted nobody same world_same =
        subst (λ (m : Managing C). IsNotCounted about slot store receipt m w1) (sym same)
        (subst (λ (w : worlds.Seen S). IsNotCounted about slot store receipt m0 w) (sym world_same) (record { order = counts_next; nobody = nobody }))

    module _ (counts : CountsIn about store receipt m0 m1 w0 w1) where
      pub same_slot : (about store).slot ≡ slot
      same_slot = let is : CountIn (about store).slot ≡ CountIn slot = sym counts.due ∙ counts_next in cc

      pub counted : IsCounted about slot store m1 w1
      counted = record {
        order = ap (λ (m : Managing C). next_of m.manager) counts.are ∙ next_is RecordOrder behind.0 (done_of m0.manager) (done_left (CountIn slot) (RecordOrder ∷ behind.0) m0.manager refl behind.1);
        of_slot = same_slot;
        joins = ap (λ (w : worlds.Seen S). w.joiner) counts.joined.are;
      }

      pub counted_left : IsQuiet w0.chain → IsLeft w0.chain w1.chain
      counted_left quiet = subst (IsLeft w0.chain) (sym counts.joined.counted) (record { recorded = refl; front = refl; many = refl; quiet = quiet })

  -- ---- its record is being written
  module _ (store : S) (m1 m2 : Managing C) (w1 w2 : worlds.Seen S) (begins : BeginsJoin about m1 m2 w1 w2) where
    pub begun_counted : IsCounted about slot store m1 w1 → IsCounted about slot store m2 w2
    begun_counted was = record {
      order = ap (λ (m : Managing C). next_of m.manager) begins.are ∙ begun_next m1.manager was.order;
      of_slot = was.of_slot;
      joins = ap (λ (w : worlds.Seen S). w.joiner) begins.begun.are ∙ was.joins;
    }

    pub begun_left : (old : Chained S) → IsLeft old w1.chain → IsLeft old w2.chain
    begun_left old was = subst (IsLeft old) (sym begins.begun.begun) (record { recorded = was.recorded; front = was.front; many = was.many; quiet = was.quiet })

    may_end : MayEndWithJoiner about w2
    may_end = subst (MayEndWithJoiner about) (sym is)
        (weaker_there (λ s. MayBeginJoin about s begins.next w1.chain) (λ s. MayEndJoin about s (record w1.chain { writing = Some begins.next })) w1.joiner begins.may
        (λ s (follows, none). record { next = begins.next; begun = refl; follows = record { sizes = follows.sizes; epoch = follows.epoch; incarnation = follows.incarnation; members = follows.members } }))
      where
        is : w2 ≡ record w1 { chain = record w1.chain { writing = Some begins.next } }
        is = begins.begun.are ∙ ap (λ (c : Chained S). record w1 { chain = c }) begins.begun.begun

    -- so the record may be the recorded one
    pub ends_surely : IsCounted about slot store m2 w2 → EndsNoJoin about m2 w2 → ⊥
    ends_surely was (inl none) = both_ways (is_record (next_of m2.manager)) none (ap is_record was.order)
    ends_surely was (inr may_not) = may_not may_end

  -- the manager and the world are as they were
  pub counted_still : (store : S) (m1 m2 : Managing C) (w1 w2 : worlds.Seen S) → m2.manager ≡ m1.manager → w2 ≡ w1 → IsCounted about slot store m1 w1 → IsCounted about slot store m2 w2
  counted_still store m1 m2 w1 w2 same world_same was = record {
    order = ap next_of same ∙ was.order;
    of_slot = was.of_slot;
    joins = ap (λ (w : worlds.Seen S). w.joiner) world_same ∙ was.joins;
  }
