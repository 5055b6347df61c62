-- What is said of an answer, said otherwise.
use Rattle.std.proofs.Common.{Result, Ok, Err}
use Rattle.std.specs.Prelude.{IfErr, IfOk}

pub ok_as : {T E : Type 0} (result : Result T E) (P R : T → Type 0) → IfOk result P → ((t : T) → P t → R t) → IfOk result R
ok_as (Ok t) P R ok then = then t ok
ok_as (Err e) P R ok then = tt

pub err_as : {T E : Type 0} (result : Result T E) (Q R : E → Type 0) → IfErr result Q → ((e : E) → Q e → R e) → IfErr result R
err_as (Ok t) Q R err then = tt
err_as (Err e) Q R err then = then e err
