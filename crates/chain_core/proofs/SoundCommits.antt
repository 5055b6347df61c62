-- What holds of a member holds after its store worked.
use Rattle.std.proofs.Common.{inl, inr, ⊎_elim, ◌≡◌, ◌≢◌, ◌∙◌, ℕ, ◌-◌, ◌<◌, ◌≤◌, List, ap, arith, length, refl, subst, sym}
use Rattle.std.specs.Prelude.{All, ◌⊎◌, IsSomeAnd, None, Option, Some}
use Rattle.std.specs.Option.{ForSome}
use Rattle.std.proofs.lemmas.List.{length-drop}
use Rattle.std.proofs.lemmas.List.Elements.{All-drop}
use Rattle.disk_model.specs.Disk.{LeavesOnly}
use Rattle.disk_model.specs.Moments.{weaker}
use Rattle.gate_journal.specs.declared.batch.TheConstants.{MAX_NUMBER}
use Rattle.local_store.specs.About.{About, meaning_then, meaning_with, one_commit_more}
use Rattle.local_store.specs.Meaning.{Means}
use Rattle.local_store.specs.Overlay.{with_images}
use Rattle.version_table.specs.Held.{writes_upto}
use Rattle.volume.specs.Writes.{Fits}
use Rattle.chain_steps.specs.Node.{Commit, NodeState, durable_of, last_of}
use Rattle.chain_steps.specs.Steps.{AreImagesOf, ended, volume_at}
use Rattle.chain_steps.specs.declared.cause.Cause.{Cause}
use Rattle.chain_core.proofs.Images.{images_make, length-writes, upto_fits}
use Rattle.local_store.specs.Refusal.{IsOfCommitting}
use Rattle.local_store.specs.declared.refusal.Refusal.{Refusal}
use Rattle.local_store.specs.declared.refusal.Refusal.TheVariants as refusals
use Rattle.chain_core.specs.Commits.{IsCause}
use Rattle.chain_core.specs.Node.{IsSound, IsUnderWay, Keeping, size_of}

-- a commit that isn't out of turn is refused by the disk, or where memory runs out, and else not
pub commit_cause : (refusal : Refusal) → IsOfCommitting refusal → refusal ≢ refusals.Broken → refusal ≢ refusals.Backwards → refusal ≢ refusals.Full → IsCause refusal
commit_cause refusals.Memory told runs rises fits = tt
commit_cause refusals.Full told runs rises fits = absurd (fits refl)
commit_cause refusals.Broken told runs rises fits = absurd (runs refl)
commit_cause refusals.NotAVolume told runs rises fits = absurd told
commit_cause refusals.OtherVersion told runs rises fits = absurd told
commit_cause refusals.Unfinished told runs rises fits = absurd told
commit_cause refusals.Backwards told runs rises fits = absurd (rises refl)
commit_cause (refusals.Device error) told runs rises fits = tt

module _ (about : About) (keeping : Keeping) (node : NodeState) (is : IsSound about keeping node) where
  -- its store did its work, used no more of the area by it, and keeps what it kept
  pub sound_worked : node.stopped ≡ None → (used stores : ℕ) (tells : About) (keeps : List ℕ → Type 0) → used ≤ about.used → tells ≡ record about { used = used; stores = stores }
      → (keeping.premise → (volume : List ℕ) → keeping.keeps volume → keeps volume) → (keeping.premise → (one other : List ℕ) → keeps one → keeps other → one ≡ other)
      → IsSound tells (record { premise = keeping.premise; keeps = keeps }) node
  sound_worked runs used stores tells keeps less same kept one = subst (λ a. IsSound a (record { premise = keeping.premise; keeps = keeps }) node) (sym same) (record {
    slot = is.slot;
    incarnation = is.incarnation;
    front = is.front;
    behind = is.behind;
    ahead = is.ahead;
    limit = is.limit;
    blocks = is.blocks;
    inside = is.inside;
    some = is.some;
    owed = is.owed;
    asked = is.asked;
    found = is.found;
    under_way = λ c here. let way = is.under_way c here in record { above = way.above; known = way.known; images = way.images; room = omega (arith, way.room) };
    running = λ still. let was = is.running still in record { whole = was.whole; version = was.version; keeps = λ premise. let (volume, keep, long) = was.keeps premise in (volume, kept premise volume keep, long) };
    lent = is.lent;
    resting = is.resting;
    journals = λ premise volume keep.
        let (was, kept_was, long) = (is.running runs).keeps premise in
        is.journals premise volume (subst keeping.keeps (one premise was volume (kept premise was kept_was) keep) kept_was);
  })

  -- a commit begins, and no front is kept
  pub sound_begun : node.stopped ≡ None → node.commit ≡ None → (commit : Commit) → IsUnderWay about node commit
      → (keeping.premise → (volume : List ℕ) → keeping.keeps volume → AreImagesOf volume (writes_upto node.table commit.front) commit.images)
      → IsSound about keeping (record node { commit = Some commit; found = None })
  sound_begun runs none commit way are = record {
    slot = is.slot;
    incarnation = is.incarnation;
    front = is.front;
    behind = is.behind;
    ahead = is.ahead;
    limit = is.limit;
    blocks = is.blocks;
    inside = is.inside;
    some = is.some;
    owed = is.owed;
    asked = is.asked;
    found = λ x none. absurd (cc);
    under_way = λ c here. subst (IsUnderWay about (record node { commit = Some commit; found = None })) (the_same c here) (record { above = way.above; known = way.known; images = way.images; room = way.room });
    running = is.running;
    lent = λ still batch some. let same = is.lent still batch some in absurd (cc);
    resting = λ cause stopped. absurd (cc);
    journals = λ premise volume keep c here. subst (λ k. AreImagesOf volume (writes_upto node.table k.front) k.images) (the_same c here) (are premise volume keep);
  }
    where
      the_same : (c : Commit) → Some commit ≡ Some c → commit ≡ c
      the_same c here = cc

  module _ (commit : Commit) (here : node.commit ≡ Some commit) where
    -- a member with a commit under way runs
    pub way_runs : node.stopped ≡ None
    way_runs = runs_by node.stopped is.resting
      where
        runs_by : (stopped : Option Cause) → ForSome stopped (λ cause. node.commit ≡ None) → stopped ≡ None
        runs_by None rest = refl
        runs_by (Some cause) rest = let none = rest cause refl in absurd (cc)

    pub images_are : (volume : List ℕ) → keeping.premise → keeping.keeps volume → length volume ≡ size_of about → with_images volume commit.images ≡ volume_at volume node commit.front
    images_are volume premise keep long =
        images_make about.geometry.blocks volume (writes_upto node.table commit.front) commit.images long (upto_fits (size_of about) node.table commit.front is.inside) (is.under_way commit here).images.within
        (is.journals premise volume keep commit here)

    -- a stop during the commit leaves the old volume or that at its front
    pub leaves_commit : {D : Type 0} (moment : D → ℕ) (left_since : D → ℕ → List ℕ → Type 0) (old new : D) (volume : List ℕ) → keeping.premise → keeping.keeps volume → length volume ≡ size_of about
        → LeavesOnly moment left_since old new (λ c. Means (meaning_with about volume) c ⊎ Means (meaning_then about volume commit.front commit.images) c)
        → LeavesOnly moment left_since old new (λ c. Means (meaning_with about volume) c ⊎ IsSomeAnd node.commit (λ k. Means (meaning_with (record about { front = k.front }) (volume_at volume node k.front)) c))
    leaves_commit moment left_since old new volume premise keep long = weaker moment left_since old new
        (λ c. Means (meaning_with about volume) c ⊎ Means (meaning_then about volume commit.front commit.images) c)
        (λ c. Means (meaning_with about volume) c ⊎ IsSomeAnd node.commit (λ k. Means (meaning_with (record about { front = k.front }) (volume_at volume node k.front)) c))
        (λ c. ⊎_elim (λ before. inl before) (λ after. inr
        (subst (λ o. IsSomeAnd o (λ k. Means (meaning_with (record about { front = k.front }) (volume_at volume node k.front)) c)) (sym here)
        (subst (λ v. Means (meaning_with (record about { front = commit.front }) v) c) (images_are volume premise keep long) after))))

    -- its front is one of those that can be
    pub way_limit : commit.front ≤ MAX_NUMBER
    way_limit = let way = is.under_way commit here in omega (arith, way.known, is.ahead, is.limit)

    pub way_applied : commit.front ≤ last_of node
    way_applied = let way = is.under_way commit here in omega (arith, way.known, is.ahead)

    -- its store has the commit
    pub sound_ended : (tells : About) (keeps : List ℕ → Type 0) → about.lent ≡ None → tells ≡ one_commit_more about commit.front commit.images
        → (keeping.premise → (volume : List ℕ) → keeping.keeps volume → keeps (with_images volume commit.images))
        → IsSound tells (record { premise = keeping.premise; keeps = keeps }) (ended commit.front node)
    sound_ended tells keeps back same kept =
        let way = is.under_way commit here in
        let same_last : last_of (ended commit.front node) ≡ last_of node = omega (arith, length-drop (commit.front - durable_of node) node.table.kept, way.above, way.known, is.ahead) in
        subst (λ a. IsSound a (record { premise = keeping.premise; keeps = keeps }) (ended commit.front node)) (sym same) (record {
          slot = is.slot;
          incarnation = is.incarnation;
          front = refl;
          behind = way.known;
          ahead = omega (arith, is.ahead, same_last);
          limit = omega (arith, is.limit, same_last);
          blocks = is.blocks;
          inside = All-drop (λ k. Fits (size_of about) k.write) (commit.front - durable_of node) node.table.kept is.inside;
          some = All-drop (λ k. 0 < length k.write.bytes) (commit.front - durable_of node) node.table.kept is.some;
          owed = is.owed;
          asked = is.asked;
          found = λ x none. absurd (cc);
          under_way = λ c none. absurd (cc);
          running = λ still. let was = is.running still in record {
            whole = was.whole;
            version = was.version;
            keeps = λ premise.
                let (volume, keep, long) = was.keeps premise in (
                  with_images volume commit.images,
                  kept premise volume keep,
                  ap length (images_are volume premise keep long) ∙ length-writes volume (writes_upto node.table commit.front) (subst (λ m. All (Fits m) (writes_upto node.table commit.front)) (sym long) (upto_fits (size_of about) node.table commit.front is.inside)) ∙ long,
                );
          };
          lent = λ still batch some. absurd (cc);
          resting = λ cause stopped. refl;
          journals = λ premise volume keep c none. absurd (cc);
        })
