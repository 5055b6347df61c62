-- A chain that begins with one store.
use Rattle.std.proofs.Common.{◌≡◌, ◌∙◌, ap, ℕ, List, [], ◌∷◌, length, map, sym, subst, arith}
use Rattle.std.specs.Prelude.{All, IfSome, slice_get}
use Rattle.std.proofs.lemmas.List.Elements.{All-cons, All-nil}
use Rattle.configurations.specs.Record.{Record}
use Rattle.std.proofs.lemmas.List.{get_or-map, length-map}
use Rattle.local_store.specs.About.{About}
use Rattle.chain.specs.Chain.{Chained}
use Rattle.chain.specs.Opening.{beginning_of, words_of}
use Rattle.joining.specs.Rebuilding.{IsAtFront}
use Rattle.comeback.specs.Returning.{IsSet}

-- the member of a store is at the front that the store tells
at_front : {S : Type 0} (about : S → About) (front : ℕ) (id : _) (told : Record) (store : S) → (about store).front ≡ front → IsAtFront front (beginning_of about id told store).node.state
at_front about front id told store is = record { durable = is; known = is; last = omega (arith, is) }

pub is_set : {S : Type 0} (about : S → About) (told : Record) (store : S) (items : List S) (c : Chained S) → items ≡ store ∷ [] → c.recorded ≡ told → IfSome (slice_get items 0) (λ first. c.geometry ≡ (about first).geometry)
    → IfSome (slice_get items 0) (λ first. c.words ≡ words_of (about first).front told.members) → c.members ≡ map (beginning_of about c.id told) items → IsSet about told store c
is_set about told store items c one recorded sizes words members =
    let said = subst (λ l. IfSome (slice_get l 0) (λ first. c.words ≡ words_of (about first).front told.members)) one words in
    let front : c.words.front ≡ (about store).front = ap (λ w. w.front) said in
    let are = members ∙ ap (map (beginning_of about c.id told)) one in
    record {
      recorded = recorded;
      front = front;
      sizes = subst (λ l. IfSome (slice_get l 0) (λ first. c.geometry ≡ (about first).geometry)) one sizes;
      one = ap (map (λ m. m.node.store)) are;
      quiet = subst (All (λ m. IsAtFront c.words.front m.node.state)) (sym are)
          (All-cons (λ m. IsAtFront c.words.front m.node.state) (beginning_of about c.id told store) [] (at_front about c.words.front c.id told store (sym front)) (All-nil (λ m. IsAtFront c.words.front m.node.state)));
    }

-- what holds of each that they become holds so of each
of_map : {A B : Type 0} (f : A → B) (Q : B → Type 0) (xs : List A) → All Q (map f xs) → All (λ x. Q (f x)) xs
of_map f Q xs all k d within = subst Q (get_or-map f xs k d (f d) within) (all k (f d) (rw (length-map xs f) within))

-- what holds of the store holds of the one member's
pub hold_one : {S : Type 0} (Q : S → Type 0) (store : S) (c : Chained S) → map (λ m. m.node.store) c.members ≡ store ∷ [] → Q store → All (λ m. Q m.node.store) c.members
hold_one Q store c one holds = of_map (λ m. m.node.store) Q c.members (subst (All Q) (sym one) (All-cons Q store [] holds (All-nil Q)))

pub alone_one : {S : Type 0} (store : S) (c : Chained S) → map (λ m. m.node.store) c.members ≡ store ∷ [] → length c.members ≡ 1
alone_one store c one = sym (length-map c.members (λ m. m.node.store)) ∙ ap (λ l. length l) one
