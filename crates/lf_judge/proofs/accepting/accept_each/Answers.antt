use Rattle.std.proofs.Common.{◌∙◌, rules, sym}
use Rattle.std.proofs.lemmas.List.{length-map}
use Rattle.std.proofs.lemmas.Result.{IfOk-weaker}
use Rattle.lf_judge.specs.Judged.{file_of, files_of}
use Rattle.lf_judge.specs.views.Accepting.{IsFoundIn}
use Rattle.lf_judge.proofs.Found.{all_found, all_taken}
use Rattle.lf_judge.proofs.Pieces.{each_value}
use Rattle.lf_judge.proofs.accepting.accept_each.Goals as goal

pub returns-clause-found : goal.returns-clause-found
returns-clause-found g c =
    let files = files_of c.args.files.now in
    IfOk-weaker c.map_pieces.result _ _
    (λ found is. all_found files found (is.count ∙ c.len.ensures ∙ sym (length-map c.args.files.now file_of)) (each_value _ _ _ (IsFoundIn files) (λ i x h gave. search rules) found is))
    c.map_pieces.ensures.each

pub returns-clause-taken : goal.returns-clause-taken
returns-clause-taken g c =
    let files = files_of c.args.files.now in
    IfOk-weaker c.map_pieces.result _ _
    (λ found is. all_taken files found (is.count ∙ c.len.ensures ∙ sym (length-map c.args.files.now file_of)) (each_value _ _ _ (IsFoundIn files) (λ i x h gave. search rules) found is))
    c.map_pieces.ensures.each
