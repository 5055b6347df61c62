-- A result, by cases.
use Rattle.std.proofs.Common.{Result, Ok, Err}
use Rattle.std.specs.Prelude.{IfErr, OnErr, OnOk}

-- with what holds then
pub either : {T E C : Type 0} (r : Result T E) {A : Type 0} {B : E → Type 0} → OnOk r A → IfErr r B → (A → C) → ((e : E) → B e → C) → C
either (Ok x) ok err one other = one ok
either (Err e) ok err one other = other e err

-- whatever the error
pub on_either : {T E C : Type 0} (r : Result T E) {A B : Type 0} → OnOk r A → OnErr r B → (A → C) → (B → C) → C
on_either (Ok x) ok err one other = one ok
on_either (Err e) ok err one other = other err

-- where there is none
pub on_ok : {T E : Type 0} (r : Result T E) {A B : Type 0} → OnOk r A → (A → B) → OnOk r B
on_ok (Ok x) ok then = then ok
on_ok (Err e) ok then = ok

-- where there is one
pub if_err : {T E : Type 0} (r : Result T E) {A B : E → Type 0} → IfErr r A → ((e : E) → A e → B e) → IfErr r B
if_err (Ok x) err then = err
if_err (Err e) err then = then e err

-- whichever
pub on_err : {T E : Type 0} (r : Result T E) {A B : Type 0} → OnErr r A → (A → B) → OnErr r B
on_err (Ok x) err then = err
on_err (Err e) err then = then err

-- of four that hold where there is none
pub four_on : {T E : Type 0} (r : Result T E) {A B C D F : Type 0} → OnOk r A → OnOk r B → OnOk r C → OnOk r D → (A → B → C → D → F) → OnOk r F
four_on (Ok x) a b c d then = then a b c d
four_on (Err e) a b c d then = a

-- of two that hold where there is one
pub err_both : {T E A : Type 0} (r : Result T E) {B C : E → Type 0} → OnErr r A → IfErr r B → ((e : E) → A → B e → C e) → IfErr r C
err_both (Ok x) one other then = other
err_both (Err e) one other then = then e one other
