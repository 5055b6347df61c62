-- A chain in which nothing is under way, while one of its members does something.
use Rattle.std.proofs.Common.{◌≡◌, ◌∙◌, ap, inl, inr, ℕ, ◌+◌, ◌-◌, List, length, refl, set, sym, subst, take, arith}
use Rattle.std.specs.Prelude.{All, IfNone, IfSome, IsSomeAnd, None, Option, Some, false, fold, map, nat_lt, slice_get, slice_set, ◌<◌}
use Rattle.std.proofs.lemmas.Bool.{cases_lt, cond-false, cond-true, le-ltb, lt-ltb}
use Rattle.std.proofs.lemmas.List.{length-set}
use Rattle.std.proofs.lemmas.Option.{get_or_from_slice_get, same_Some, slice_get_within}
use Rattle.std.proofs.lemmas.List.Elements.{All-set}
use Rattle.chain.specs.Chain.{Chained, Changes}
use Rattle.chain.specs.Holding.{HasReadBlock}
use Rattle.chain.specs.Member.{Linked}
use Rattle.local_store.specs.About.{About}
use Rattle.rejoin_catchup.specs.Sending.{Sending, gave, least_marked}
use Rattle.world.specs.World as worlds
use Rattle.joining.specs.Copying.{IsFor, Seen}
use Rattle.joining.specs.Giving.{GivesBlock, ReadsBlock}
use Rattle.chain_steps.specs.Node.{NodeState}
use Rattle.chain_steps.specs.Steps.{volume_at}
use Rattle.version_table.specs.declared.kept.Kept.{Kept}
use Rattle.volume.specs.Writes.{patched}
use Rattle.joining.specs.Rebuilding.{AllKeep, IsAtFront, IsQuiet, IsSteady, KeepStill}

-- nothing changed
pub steady_still : {S : Type 0} (c : Chained S) → IsQuiet c → IsSteady c c
steady_still c quiet = record { are = refl; many = refl; quiet = quiet }

-- one step, and then another
pub steady_then : {S : Type 0} (old mid new : Chained S) → IsSteady old mid → IsSteady mid new → IsSteady old new
steady_then old mid new first second = record {
  are = second.are ∙ ap (λ (c : Chained _). record c { members = new.members; links = new.links }) first.are;
  many = second.many ∙ first.many;
  quiet = second.quiet;
}

-- the links are the new ones
pub with_links : {S : Type 0} (old new : Chained S) (ms : List (Linked S)) → new ≡ record old { members = ms } → new ≡ record old { members = ms; links = new.links }
with_links old new ms are = are ∙ ap (λ ls. record old { members = ms; links = ls }) (sym (ap (λ (c : Chained _). c.links) are))

-- one member is as quiet, and the others are as they were
pub member_steady : {S : Type 0} (old new : Chained S) (at : ℕ) (m : Linked S) → new ≡ record old { members = slice_set old.members at m; links = new.links } → IsQuiet old → IsAtFront old.words.front m.node.state → IsSteady old new
member_steady old new at m are quiet still = record {
  are = are ∙ ap (λ ms. record old { members = ms; links = new.links }) (sym (ap (λ (c : Chained _). c.members) are));
  many = ap (λ (c : Chained _). length c.members) are ∙ length-set old.members at m;
  quiet = subst IsQuiet (sym are) (All-set (λ x. IsAtFront old.words.front x.node.state) old.members at m still quiet);
}

pub member_keeps : {S : Type 0} (keeps : S → List ℕ → Type 0) (old new : Chained S) (at : ℕ) (m : Linked S) (links : List (List _)) → new ≡ record old { members = slice_set old.members at m; links = links }
    → ((volume : List ℕ) → AllKeep keeps volume old → keeps m.node.store volume) → KeepStill keeps old new
member_keeps keeps old new at m links are kept volume all = subst (AllKeep keeps volume) (sym are) (All-set (λ x. keeps x.node.store volume) old.members at m (kept volume all) all)

-- what holds of each holds of the one at a place
pub all_there : {A : Type 0} (Q : A → Type 0) (xs : List A) (at : ℕ) (x : A) → All Q xs → slice_get xs at ≡ Some x → Q x
all_there Q xs at x all here = subst Q (get_or_from_slice_get xs at x x here) (all at x (slice_get_within xs at x here))

pub if_there : {A : Type 0} (Q : A → Type 0) (o : Option A) → ((a : A) → o ≡ Some a → Q a) → IfSome o Q
if_there Q None each = tt
if_there Q (Some a) each = each a refl

-- where all that is known is durable, the volume is that at the durable front
pub quiet_volume : (front : ℕ) (node : NodeState) → IsAtFront front node → (volume : List ℕ) → volume_at volume node node.known ≡ volume
quiet_volume front node quiet volume =
    let none : node.known - node.table.forgotten ≡ 0 = omega (arith, quiet.known, quiet.durable) in
    ap (λ (n : ℕ). fold patched volume (map (λ (k : Kept). k.write) (take n node.table.kept))) none

-- a block that is given doesn't change how many there are
pub gave_long : (s : Sending) → length (gave s).marks ≡ length s.marks
gave_long s = elim (cases_lt s.given (length s.marks)) [
  | inl some ↦ ap (λ (t : Sending). length t.marks) (cond-true (nat_lt s.given (length s.marks)) (record s { given = s.given + 1 }) (record s { marks = set s.marks (least_marked s.marks) false }) (lt-ltb _ _ some))
  | inr all ↦ ap (λ (t : Sending). length t.marks) (cond-false (nat_lt s.given (length s.marks)) (record s { given = s.given + 1 }) (record s { marks = set s.marks (least_marked s.marks) false }) (le-ltb _ _ all)) ∙ length-set s.marks (least_marked s.marks) false
]

-- a block was read
module _ {S : Type 0} (premise : Type 0) (about : S → About) (failures : S → ℕ) (keeps : S → List ℕ → Type 0) (moment : S → ℕ) (left_since : S → ℕ → List ℕ → Type 0) where
  pub read_steady : (at block : ℕ) (world after : worlds.Seen S) → ReadsBlock premise about failures keeps moment left_since at block world after → IsQuiet world.chain → IsSteady world.chain after.chain
  read_steady at block world after (bytes, moves) quiet =
      let did = moves.did in
      member_steady world.chain after.chain at did.after (with_links world.chain after.chain _ did.are) quiet
      (subst (λ (m : Linked S). IsAtFront world.chain.words.front m.node.state) (sym did.did.are) (all_there (λ m. IsAtFront world.chain.words.front m.node.state) world.chain.members at did.before quiet did.here))

  pub read_keeps : (at block : ℕ) (world after : worlds.Seen S) → ReadsBlock premise about failures keeps moment left_since at block world after → premise → KeepStill keeps world.chain after.chain
  read_keeps at block world after (bytes, moves) holds =
      let did = moves.did in
      member_keeps keeps world.chain after.chain at did.after world.chain.links did.are
      (λ volume all. did.did.only_read.kept holds volume (all_there (λ m. keeps m.node.store volume) world.chain.members at did.before all did.here))

-- a block was given
module _ {S D : Type 0} (premise : Type 0) (about : S → About) (failures : S → ℕ) (keeps : S → List ℕ → Type 0) (moment : S → ℕ) (left_since : S → ℕ → List ℕ → Type 0)
    (block : ℕ) (old new : Seen D) (world after : worlds.Seen S) (gives : GivesBlock premise about failures keeps moment left_since block old new world after) where
  did : Changes old.at world.chain after.chain (HasReadBlock premise about failures keeps moment left_since block gives.read.0)
  did = gives.read.1.did

  pub given_steady : IsQuiet world.chain → IsSteady world.chain after.chain
  given_steady quiet = read_steady premise about failures keeps moment left_since old.at block world after gives.read quiet

  pub given_keeps : premise → KeepStill keeps world.chain after.chain
  given_keeps holds = read_keeps premise about failures keeps moment left_since old.at block world after gives.read holds

  pub given_for : IsQuiet world.chain → IsFor world.chain old → IsFor after.chain new
  given_for quiet was = record {
    member = subst (λ (n : ℕ). new.at < n) (sym (given_steady quiet).many) (subst (λ (c : Seen D). c.at < length world.chain.members) (sym gives.given.are) was.member);
    blocks = ap (λ (c : Seen D). length c.sender.marks) gives.given.are ∙ gave_long old.sender ∙ was.blocks ∙ ap (λ (c : Chained S). c.geometry.blocks) (sym did.are);
  }

-- what holds of what is there
pub some_and : {A : Type 0} (P : A → Type 0) (o : Option A) → IsSomeAnd o P → (a : A) → o ≡ Some a → P a
some_and P None holds a is = absurd holds
some_and P (Some b) holds a is = subst P (same_Some b a is) holds

-- what holds where nothing is there
pub if_none : {A : Type 0} (P : Type 0) (o : Option A) → IfNone o P → o ≡ None → P
if_none P None holds none = holds
if_none P (Some a) holds none = absurd cc
