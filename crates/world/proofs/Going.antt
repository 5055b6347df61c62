-- Things that happen, one after another.
use Rattle.std.proofs.Common.{◌≡◌, ℕ, List, [], ◌∷◌, ◌++◌, refl, ap, sym, subst, ◌∙◌}
use Rattle.std.proofs.lemmas.List.{append_assoc, append-nil}
use Rattle.chain_model.specs.View.{View}
use Rattle.world_model.specs.Event.{ClientEvent}
use Rattle.world_model.specs.Life.{all_events}
use Rattle.chain_model.specs.Life.{Era, Happening, Happens}
use Rattle.chain.specs.Asking.{GoesTaking}
use Rattle.chain.specs.Chain as chain
use Rattle.world.specs.World.{Goes}

era_then : (size : ℕ) (u : View) (hs : List Happening) (v : View) (es : List (List ClientEvent)) (ks : List Happening) (w : View) (fs : List (List ClientEvent))
    → Era size u hs v es → Era size v ks w fs → Era size u (hs ++ ks) w (es ++ fs)
era_then size u [] v es ks w fs (same, none) later = subst (λ x. Era size x ks w (es ++ fs)) same (subst (λ l. Era size v ks w (l ++ fs)) (sym none) later)
era_then size u (h ∷ hs) v es ks w fs (mid, now, rest, are, happens, then) later =
    (mid, now, rest ++ fs, ap (λ l. l ++ fs) are, happens, era_then size mid hs v rest ks w fs then later)

all_then : (es fs : List (List ClientEvent)) → all_events (es ++ fs) ≡ all_events es ++ all_events fs
all_then [] fs = refl
all_then (e ∷ es) fs = ap (λ l. e ++ l) (all_then es fs) ∙ sym (append_assoc e (all_events es) (all_events fs))

pub goes_on : {size : ℕ} (u v w : View) (now later : List ClientEvent) → Goes size u v now → Goes size v w later → Goes size u w (now ++ later)
goes_on {size} u v w now later first then = record {
  happenings = first.happenings ++ then.happenings;
  each = first.each ++ then.each;
  era = era_then size u first.happenings v first.each then.happenings w then.each first.era then.era;
  all = all_then first.each then.each ∙ ap (λ l. l ++ all_events then.each) first.all ∙ ap (λ l. now ++ l) then.all;
}

pub goes_nowhere : {size : ℕ} (v : View) → Goes size v v []
goes_nowhere v = record { happenings = []; each = []; era = (refl, refl); all = refl }

pub goes_by : {size : ℕ} (h : Happening) (v w : View) (events : List ClientEvent) → Happens size h v w events → Goes size v w events
goes_by h v w events happens = record { happenings = h ∷ []; each = events ∷ []; era = (w, events, [], refl, happens, (refl, refl)); all = append-nil events }

pub goes_as : {size : ℕ} (v w : View) (events : List ClientEvent) → chain.Goes size v w events → Goes size v w events
goes_as v w events goes = record { happenings = goes.happenings; each = goes.each; era = goes.era; all = goes.all }

pub goes_taking : {size at : ℕ} {rest : _} (v w : View) (events : List ClientEvent) → GoesTaking size at rest v w events → Goes size v w events
goes_taking v w events goes = record { happenings = goes.happenings; each = goes.each; era = goes.era; all = goes.all }

pub goes_same : {size : ℕ} (v w : View) (events others : List ClientEvent) → events ≡ others → Goes size v w events → Goes size v w others
goes_same {size} v w events others are goes = subst (Goes size v w) are goes
