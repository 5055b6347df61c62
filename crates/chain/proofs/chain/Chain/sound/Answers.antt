use Rattle.std.proofs.Common.{◌≡◌, ◌<◌, ◌≤◌, ◌*◌, ◌+◌, List, [], ◌∷◌, length, take, get_or, ap, subst, sym, ◌∙◌, ℕ}
use Rattle.std.specs.Prelude.{All}
use Rattle.std.proofs.lemmas.List.{take_all, take_more}
use Rattle.std.proofs.lemmas.List.Elements.{All-append, All-cons, All-nil}
use Rattle.volume.specs.declared.geometry.Geometry.{Geometry}
use Rattle.chain.specs.Chain.{Chained, IsIn, bytes_of}
use Rattle.chain.specs.Member.{HasOwnDisk, KeepsInside, Linked}
use Rattle.chain.proofs.chain.Chain.sound.Goals as goal

-- one more
more : {A : Type 0} (P : A → Type 0) (xs : List A) (i : ℕ) (m : A) → i < length xs → All P (take i xs) → P (get_or xs i m) → All P (take (i + 1) xs)
more P xs i m within so_far one = subst (All P) (sym (take_more xs i m within)) (All-append P (take i xs) (get_or xs i m ∷ []) so_far (All-cons P (get_or xs i m) [] one (All-nil P)))

pub loop-member-preserved : goal.loop-member-preserved
loop-member-preserved g c =
    let about = g.S.StoreLike.about in
    let xs = c.args.self.now.members in
    let i = c.loop-member.member-index in
    let m = c.member-item.result in
    let same = c.deref-member-items.ensures.value ∙ ap (λ (s : Chained g.row.S.Denot). s.members) c.self.view_is in
    let within : i < length xs = subst (λ (l : List (Linked g.row.S.Denot)). i < length l) same c.loop-member-test.true in
    let is : m ≡ get_or xs i m = c.member-item.is ∙ ap (λ l. get_or l i m) same in
    let sizes : (about (get_or xs i m).node.store).geometry ≡ c.args.self.now.geometry =
    (subst (λ (s : Chained g.row.S.Denot). All (IsIn about s.id s.seat s.geometry) s.members) c.self.view_is c.self.invariant.members i m within).sizes in
    record {
      own = more (HasOwnDisk about) xs i m within c.loop-member.invariant.own (subst (HasOwnDisk about) is c.sound.ensures.own);
      inside = more (KeepsInside (bytes_of c.args.self.now)) xs i m within c.loop-member.invariant.inside
          (subst (λ (n : Geometry). KeepsInside (4096 * n.blocks) (get_or xs i m)) sizes (subst (λ (x : Linked g.row.S.Denot). KeepsInside (4096 * (about x.node.store).geometry.blocks) x) is c.sound.ensures.inside));
    }

pub returns : goal.returns
returns g c =
    let xs = c.args.self.now.members in
    let all : length xs ≤ c.loop-member.member-index = subst (λ (l : List (Linked g.row.S.Denot)). length l ≤ c.loop-member.member-index) (c.deref-member-items.ensures.value ∙ ap (λ (s : Chained g.row.S.Denot). s.members) c.self.view_is) c.loop-member-test.false in
    record {
      own = subst (All (HasOwnDisk g.S.StoreLike.about)) (take_all c.loop-member.member-index xs all) c.loop-member.invariant.own;
      inside = subst (All (KeepsInside (bytes_of c.args.self.now))) (take_all c.loop-member.member-index xs all) c.loop-member.invariant.inside;
    }
