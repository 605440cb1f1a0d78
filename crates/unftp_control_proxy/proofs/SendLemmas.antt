-- A clear line is one line; and why a line is not sent.
use Rattle.std.specs.Global.{Vec}
use Rattle.std.specs.Prelude.{◌-◌, ◌&&◌, IfErr, OnErr, bytes_eq}
use Rattle.std.specs.List.{list_all}
use Rattle.std.proofs.Common.{Result, Ok, Err, OnOk, ◌≡◌, ℕ, Bool, true, false, [], ◌∷◌, ◌++◌, length, length-append, append_assoc, drop, take, arith, ap, refl, sym, subst, ◌∙◌}
use Rattle.std.proofs.lemmas.Bool.{false≢true}
use Rattle.std.proofs.lemmas.List.{take-append-drop}
use Rattle.std.proofs.lemmas.Slice.Eq.{bytes_eq-Decides}
use Rattle.std.proofs.Math.Seq.{drop-append_seam, take-append_seam}
use Rattle.unftp_control_defs.specs.Bytes.{Bytes, CR, LF, Lacks, crlf}
use Rattle.unftp_control_defs.specs.Forwarded.{forwarded_line}
use Rattle.unftp_control_defs.specs.Lines.{IsLine}
use Rattle.unftp_control_defs.proofs.LackLemmas.{Lacks-append}
use Rattle.unftp_control_write.specs.ClearLines.{has_clear_verb, is_clear, is_plain, is_plain_line}
use Rattle.unftp_control_write.specs.Forwarding.{IsForwardError, IsForwarded, LacksRoomFor}
use Rattle.unftp_control_write.specs.declared.forwarding.ForwardError.{ForwardError}
use Rattle.unftp_control_write.specs.declared.forwarding.ForwardError.TheVariants as forward
use Rattle.unftp_control_proxy.specs.ProxyCalls.{IsAppendedError, IsDecidable, IsForwardingError, ProxyState, send_error}
use Rattle.unftp_control_proxy.specs.declared.errors.SendError.{SendError}
use Rattle.unftp_control_proxy.specs.declared.errors.SendError.TheVariants as send

-- ---- a clear line is one line

both : (s t : Bool) → (s && t) ≡ true → (s ≡ true) × (t ≡ true)
both true t e = (refl, e)
both false t e = absurd (cc)

plain_lacks : (text : Bytes) → list_all is_plain text ≡ true → Lacks LF text
plain_lacks [] plain = tt
plain_lacks (b ∷ text) plain = (by_byte, plain_lacks text each.1)
  where
    each : (is_plain b ≡ true) × (list_all is_plain text ≡ true)
    each = both (is_plain b) (list_all is_plain text) plain

    by_byte : b ≡ LF → ⊥
    by_byte e = let first = each.0 in false≢true (rw e at first)

bytes_eq_is : (a b : Bytes) → bytes_eq a b ≡ true → a ≡ b
bytes_eq_is a b e = (bytes_eq-Decides a b).0 e

pub clear_is_line : (line : Bytes) → is_clear line ≡ true → IsLine line
clear_is_line line clear = record {
  body = take (length line - 2) line ++ CR ∷ [];
  whole = sym (take-append-drop (length line - 2) line)
      ∙ ap (λ end. take (length line - 2) line ++ end) ends
      ∙ sym (append_assoc (take (length line - 2) line) (CR ∷ []) (LF ∷ []));
  one_end = Lacks-append LF (take (length line - 2) line) (CR ∷ [])
      (plain_lacks (take (length line - 2) line) plain.0) ((λ e. omega arith), tt);
}
  where
    plain : (list_all is_plain (take (length line - 2) line) ≡ true)
        × (bytes_eq (drop (length line - 2) line) crlf ≡ true)
    plain = both _ _ (both (has_clear_verb line) (is_plain_line line) clear).1

    ends : drop (length line - 2) line ≡ crlf
    ends = bytes_eq_is (drop (length line - 2) line) crlf plain.1

-- ---- why a line is not sent

module _ (proxy : ProxyState) (line : Bytes) (out : Vec ℕ) where
  pub not_forwarded : {T : Type 0} (result : Result T ForwardError) → IsDecidable proxy
      → (error : ForwardError) → result ≡ Err error → IsForwardError line error
      → (result ≡ Err forward.OutOfMemory → LacksRoomFor line out)
      → IsForwardingError proxy line out (send_error error)
  not_forwarded result may forward.NotALine is why room = (may, why)
  not_forwarded result may (forward.Refused kind) is why room = (may, why)
  not_forwarded result may forward.OutOfMemory is why room = (may, room is)

  -- what would be forwarded is not sent, for the reason that `send_appended` returns
  not_sent : {before after sent : Bytes} → IsForwarded line before after
      → sent ≡ drop (length before) after → IsDecidable proxy → (error : SendError)
      → IsAppendedError proxy sent error → IsForwardingError proxy line out error
  not_sent {before} {after} {sent} forwarded is may error why =
      by_error error (subst (λ sent. IsAppendedError proxy sent error) appended why)
    where
      appended : sent ≡ forwarded_line line forwarded.command
      appended = is ∙ ap (drop (length before)) forwarded.appended
          ∙ drop-append_seam before (forwarded_line line forwarded.command)

      by_error : (error : SendError)
          → IsAppendedError proxy (forwarded_line line forwarded.command) error
          → IsForwardingError proxy line out error
      by_error send.NoLine why = why
      by_error send.NotALine why = absurd (why.1 forwarded.is_line)
      by_error (send.Refused kind) why = absurd why.1
      by_error send.Unclear why = (
        may,
        record { command = forwarded.command; means = forwarded.means; unsent = why },
      )
      by_error send.TooLong why = (
        may,
        record { command = forwarded.command; means = forwarded.means; unsent = why },
      )
      by_error send.NotFinal why = absurd why.1
      by_error send.NotPlain why = absurd why.1
      by_error send.TooManyCommands why = (
        may,
        record { command = forwarded.command; means = forwarded.means; unsent = why },
      )
      by_error send.OutOfMemory why = absurd why.1

  pub send_appended : {T : Type 0} (result : Result T SendError) {before after sent : Bytes}
      → IsForwarded line before after → sent ≡ drop (length before) after → IsDecidable proxy
      → IfErr result (IsAppendedError proxy sent) → IfErr result (IsForwardingError proxy line out)
  send_appended (Ok done) forwarded is may why = tt
  send_appended (Err error) forwarded is may why = not_sent forwarded is may error why

-- what was appended is removed again
pub removed_again : {T E : Type 0} (result : Result T E) (n : ℕ) (before later : Bytes)
    {after : Bytes} → n ≡ length before → (more : Bytes) × (after ≡ before ++ more)
    → OnErr result (later ≡ take n after) → OnErr result (later ≡ before)
removed_again (Ok done) n before later is appended removed = tt
removed_again (Err error) n before later {after} is (more, appended) removed = removed
    ∙ ap (λ n. take n after) is ∙ ap (take (length before)) appended ∙ take-append_seam before more

-- what is empty is no line
pub empty_is_no_line : (line : Bytes) → length line ≡ 0 → ¬ IsLine line
empty_is_no_line line empty is =
    omega (arith, empty, ap length is.whole, length-append is.body (LF ∷ []))

pub on_ok : {T E : Type 0} (result : Result T E) {P : Type 0} → P → OnOk result P
on_ok (Ok done) holds = holds
on_ok (Err error) holds = tt
