-- By the ways a request can go. Assumes nothing.
use Rattle.std.proofs.Common.{◌≡◌, length, Err, sym, ap, ◌∙◌, rules}
use borrow.Author.Tests.{leb-true, leb-false}
use Rattle.base_refusals.specs.Numbers.{number, number_of}
use Rattle.base_refusals.proofs.Numbers.{not_zero, kept, broken}
use Rattle.machine_node_configuration.specs.Requests.{request_refusal}
use Rattle.machine_node_configuration.specs.Responses.{configure_told, refuse, response_to}
use Rattle.machine_node_configuration.proofs.Ways.{request_refused, too_long, done}
use Rattle.machine_node_configuration.proofs.configure.Goals as goal

pub returns-in_err-judge : goal.returns-in_err-judge
returns-in_err-judge c =
    let a = c.args in
    let r = c.in_err-judge.field-0.0 in
    let is : number r ≡ request_refusal a.request.now = sym (ap number_of c.in_err-judge.was) ∙ c.judge.ensures in
    let e : configure_told a.address c.from_residual.result ≡ configure_told a.address (Err r) = search rules in
    rw (e, is) (request_refused a.identity a.address a.request.now a.response.now (λ z. not_zero r (is ∙ z)))

pub returns-in_err-unless : goal.returns-in_err-unless
returns-in_err-unless c =
    let a = c.args in
    let e : c.length-length.result ≡ length (response_to a.identity a.request.now) = c.length-length.ensures ∙ ap length c.response_to-given.ensures in
    let none : request_refusal a.request.now ≡ 0 = search rules in
    let ten : configure_told a.address c.from_residual-in_err-unless.result ≡ refuse a.address 10 = search rules in
    let short = leb-false _ _ (broken _ _ _ (sym c.unless.ensures ∙ c.in_err-unless.was)) in
    rw ten (too_long a.identity a.address a.request.now a.response.now none (rw (c.from.ensures ∙ e) at short))

pub returns : goal.returns
returns c =
    let a = c.args in
    let e : c.length-length.result ≡ length (response_to a.identity a.request.now) = c.length-length.ensures ∙ ap length c.response_to-given.ensures in
    let none : request_refusal a.request.now ≡ 0 = search rules in
    let fits = leb-true _ _ (kept _ _ _ (sym c.unless.ensures ∙ c.in_ok-unless.was)) in
    rw (c.address_after.ensures, c.put.ensures, e, c.response_to-given.ensures) (done a.identity a.address a.request.now a.response.now none (rw (c.from.ensures ∙ e) at fits))
