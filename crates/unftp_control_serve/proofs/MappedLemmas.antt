-- A result whose error was made one of the handler.
use Rattle.std.proofs.Common.{◌≡◌, Result, Ok, Err, refl, subst}
use Rattle.std.specs.Result.{IsErrAnd, MatchResult}
use Rattle.unftp_control_message.specs.ErrorParts.{KindAndSource}
use Rattle.unftp_control_serve.specs.declared.error.ServeError.{ServeError}
use Rattle.unftp_control_serve.specs.declared.error.ServeError.TheVariants as error

module _ {T : Type 0} where
  abbrev pub IsMapped : Result T KindAndSource → Result T ServeError → Type 0
  IsMapped result mapped = MatchResult result (λ x. mapped ≡ Ok x)
      (λ failed. IsErrAnd mapped (λ failure. failure ≡ error.Handler failed))

  pub mapped-ok : (result : Result T KindAndSource) (mapped : Result T ServeError) (x : T)
      → IsMapped result mapped → mapped ≡ Ok x → result ≡ Ok x
  mapped-ok (Ok y) mapped x is ok = cc
  mapped-ok (Err failed) mapped x is ok =
      absurd (subst (λ mapped. IsErrAnd mapped (λ failure. failure ≡ error.Handler failed)) ok is)

  pub mapped-err : (result : Result T KindAndSource) (mapped : Result T ServeError)
      (failure : ServeError) → IsMapped result mapped → mapped ≡ Err failure
      → (failed : KindAndSource) × (result ≡ Err failed) × (failure ≡ error.Handler failed)
  mapped-err (Ok y) mapped failure is err = absurd (cc)
  mapped-err (Err failed) mapped failure is err = (
    failed,
    refl,
    subst (λ mapped. IsErrAnd mapped (λ failure. failure ≡ error.Handler failed)) err is,
  )
