-- The order of what is carried.
use Rattle.std.specs.Prelude.{◌++◌, ◌∷◌, [], List, Option, option_to_list, reverse}
use Rattle.chain_steps.specs.declared.message.Sent.{Sent}
use Rattle.mail.specs.Given.{flat}
use Rattle.cluster.specs.declared.carried.Carried.{Carried}

-- the next one, the others of its bundle, of which the first stands last, and the bundles behind it
abbrev pub in_order : {B A : Type 0} → Option A → List A → (B → List A) → List B → List A
in_order next rest items bundles = option_to_list next ++ (reverse rest ++ flat items bundles)

-- the messages that are carried, the oldest first
abbrev pub order_of : Carried → List Sent
order_of carried = in_order carried.next carried.rest.items (λ bundle. bundle.items) carried.bundles.items

-- all but the first
abbrev pub left_of : {A : Type 0} → List A → List A
left_of [] = []
left_of (x ∷ xs) = xs
