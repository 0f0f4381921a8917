-- Worked example lines, good and damaged, each beside what it comes to: itself again, with its numbers as they are
-- printed, or the answer that declines it.
use Rattle.std.specs.Prelude.{ℕ, List, [], ◌∷◌, ◌++◌, replicate, Ok, Err, codes}
use Rattle.figure.specs.Tides.{tide_start, tide_shown}
use Rattle.figure.specs.declared.tide.Tide.{Tide}
use Rattle.model.specs.declared.answers.Refusal.{Refusal}
use Rattle.model.specs.declared.answers.Reply.{Reply}
use Rattle.script.specs.declared.fault.ScriptFault.{ScriptFault}
use Rattle.script.specs.declared.fault.TextFault.{TextFault}
use Rattle.script.specs.Answers.{LineAnswer, answer_of, line_shown}

-- Call lines to a register of tides. Byte 13 ends no line here, and the last two have 200 and 201 bytes.
abbrev pub tide_lines : List (List ℕ × List ℕ)
tide_lines =
    (codes "W\t1250\t480", codes "W\t1250\t480") ∷ (
    (codes "W\t-20000\t1439", codes "W\t-20000\t1439") ∷ (
    (codes "W\t-0\t007", codes "W\t0\t7") ∷ (
    (codes "W\t20001\t0", codes "no\tfigure\t15\t1") ∷ (
    (codes "W\t-20001\t0", codes "no\tfigure\t15\t1") ∷ (
    (codes "W\t0\t1440", codes "no\tfigure\t15\t2") ∷ (
    (codes "W\t1\t-2", codes "no\tfigure\t15\t2") ∷ (
    (codes "W\t--1\t2", codes "no\tfigure\t15\t1") ∷ (
    (codes "W\t1x\t9999", codes "no\tfigure\t15\t1") ∷ (
    (codes "W\t0000001\t2", codes "no\tfigure\t15\t1") ∷ (
    (codes "W\t1\t", codes "no\tfigure\t15\t2") ∷ (
    (codes "W\t\t", codes "no\tfigure\t15\t1") ∷ (
    (codes "W\t", codes "no\ttext\t14\t0") ∷ (
    (codes "W", codes "no\ttext\t14\t0") ∷ (
    (codes "W\t1", codes "no\ttext\t14\t0") ∷ (
    (codes "W\tx", codes "no\ttext\t14\t0") ∷ (
    (codes "W\t1\t2\t3", codes "no\ttext\t14\t0") ∷ (
    (codes "R\t0\tquick", codes "R\t0\tquick") ∷ (
    (codes "R\t31\tsettled", codes "R\t31\tsettled") ∷ (
    (codes "R\t999999\trelay", codes "R\t999999\trelay") ∷ (
    (codes "R\t007\tquick", codes "R\t7\tquick") ∷ (
    (codes "R\t0\tQuick", codes "no\ttext\t13\t2") ∷ (
    (codes "R\t0\t", codes "no\ttext\t13\t2") ∷ (
    (codes "R\tx\tslow", codes "no\ttext\t15\t1") ∷ (
    (codes "R\t\tquick", codes "no\ttext\t15\t1") ∷ (
    (codes "R\t0", codes "no\ttext\t14\t0") ∷ (
    (codes "R\tquick", codes "no\ttext\t14\t0") ∷ (
    (codes "R\t0\tquick\t", codes "no\ttext\t14\t0") ∷ (
    (codes "D\t0", codes "D\t0") ∷ (
    (codes "D\t1023", codes "D\t1023") ∷ (
    (codes "X\t7", codes "X\t7") ∷ (
    (codes "A\t12", codes "A\t12") ∷ (
    (codes "D", codes "no\ttext\t14\t0") ∷ (
    (codes "D\t1\t2", codes "no\ttext\t14\t0") ∷ (
    (codes "D\t", codes "no\ttext\t15\t1") ∷ (
    (codes "D\t-1", codes "no\ttext\t15\t1") ∷ (
    (codes "X\t+1", codes "no\ttext\t15\t1") ∷ (
    (codes "A\t1234567", codes "no\ttext\t15\t1") ∷ (
    (codes "H\tcabinet\t2", codes "H\tcabinet\t2") ∷ (
    (codes "H\tconsole\t0", codes "H\tconsole\t0") ∷ (
    (codes "H\tstation", codes "H\tstation") ∷ (
    (codes "H", codes "no\ttext\t14\t0") ∷ (
    (codes "H\tcabinet", codes "no\ttext\t14\t0") ∷ (
    (codes "H\tstation\t1", codes "no\ttext\t14\t0") ∷ (
    (codes "H\tconsole\t1\t2", codes "no\ttext\t14\t0") ∷ (
    (codes "H\tcabinet\tx", codes "no\ttext\t15\t2") ∷ (
    (codes "H\tconsole\t", codes "no\ttext\t15\t2") ∷ (
    (codes "H\tship\t1", codes "no\ttext\t13\t1") ∷ (
    (codes "H\tship", codes "no\ttext\t13\t1") ∷ (
    (codes "H\t", codes "no\ttext\t13\t1") ∷ (
    ([], codes "no\ttext\t13\t0") ∷ (
    (codes "\t", codes "no\ttext\t13\t0") ∷ (
    (codes "\tD\t0", codes "no\ttext\t13\t0") ∷ (
    (codes "d\t1", codes "no\ttext\t13\t0") ∷ (
    (codes "DD\t0", codes "no\ttext\t13\t0") ∷ (
    (codes "Q", codes "no\ttext\t13\t0") ∷ (
    (codes "Q\t1\t2", codes "no\ttext\t13\t0") ∷ (
    (codes "D 0", codes "no\ttext\t13\t0") ∷ (
    (codes "plant\ttide\t2\tcount\t3\t1", codes "no\ttext\t13\t0") ∷ (
    (codes "D\t0" ++ (13 ∷ []), codes "no\ttext\t12\t0") ∷ (
    (codes "D\t0" ++ (127 ∷ []), codes "no\ttext\t12\t0") ∷ (
    (codes "d" ++ (195 ∷ []), codes "no\ttext\t12\t0") ∷ (
    (codes "D\t" ++ replicate 198 48, codes "no\ttext\t15\t1") ∷ (
    (codes "D\t" ++ replicate 199 48, codes "no\ttext\t12\t0") ∷ [])))))))))))))))))))))))))))))))))))))))))))))))))))))))))))))))

-- Call lines to a register of orders.
abbrev pub order_lines : List (List ℕ × List ℕ)
order_lines =
    (codes "W\thold", codes "W\thold") ∷ (
    (codes "W\tdig\t9000\tport", codes "W\tdig\t9000\tport") ∷ (
    (codes "W\tdig\t60000\tstarboard", codes "W\tdig\t60000\tstarboard") ∷ (
    (codes "W\tdig\t0\tboth", codes "W\tdig\t0\tboth") ∷ (
    (codes "W\tshift\t12", codes "W\tshift\t12") ∷ (
    (codes "W\tshift\t009999", codes "W\tshift\t9999") ∷ (
    (codes "W\tshift\t10000", codes "no\tfigure\t15\t2") ∷ (
    (codes "W\tshift\t-1", codes "no\tfigure\t15\t2") ∷ (
    (codes "W\tdig\t60001\tport", codes "no\tfigure\t15\t2") ∷ (
    (codes "W\tdig\tx\tleft", codes "no\tfigure\t15\t2") ∷ (
    (codes "W\tdig\t1\tleft", codes "no\tfigure\t13\t3") ∷ (
    (codes "W\tdig\t1\t", codes "no\tfigure\t13\t3") ∷ (
    (codes "W\tdig\t1", codes "no\ttext\t14\t0") ∷ (
    (codes "W\tdig\t1\tport\t2", codes "no\ttext\t14\t0") ∷ (
    (codes "W\thold\t", codes "no\ttext\t14\t0") ∷ (
    (codes "W\tshift", codes "no\ttext\t14\t0") ∷ (
    (codes "W", codes "no\ttext\t14\t0") ∷ (
    (codes "W\t", codes "no\tfigure\t13\t1") ∷ (
    (codes "W\tHold", codes "no\tfigure\t13\t1") ∷ (
    (codes "W\t1250\t480", codes "no\tfigure\t13\t1") ∷ (
    (codes "R\t1\trelay", codes "R\t1\trelay") ∷ []))))))))))))))))))))

-- First lines.
abbrev pub first_lines : List (List ℕ × List ℕ)
first_lines =
    (codes "plant\ttide\t2\tcount\t3\t1", codes "plant\ttide\t2\tcount\t3\t1") ∷ (
    (codes "plant\torder\t32\tgrid\t2\t3", codes "plant\torder\t32\tgrid\t2\t3") ∷ (
    (codes "plant\ttide\t1\tlead\t0\t3\t1", codes "plant\ttide\t1\tlead\t0\t3\t1") ∷ (
    (codes "plant\ttide\t01\tgroups\t3\t1\t2\t0", codes "plant\ttide\t1\tgroups\t3\t1\t2\t0") ∷ (
    (codes "plant\ttide\t2\tcount\t4\t2", codes "no\trule\t2\t0") ∷ (
    (codes "plant\ttide\t2\tcount\t0\t0", codes "no\trule\t1\t0") ∷ (
    (codes "plant\ttide\t2\tcount\t25\t13", codes "no\trule\t1\t0") ∷ (
    (codes "plant\ttide\t2\tgrid\t5\t5", codes "no\trule\t1\t0") ∷ (
    (codes "plant\ttide\t2\tlead\t3\t3\t1", codes "no\trule\t1\t0") ∷ (
    (codes "plant\ttide\t2\tlead\t3\t2\t1", codes "no\trule\t2\t0") ∷ (
    (codes "plant\ttide\t2\tgroups\t4\t2\t25\t0", codes "no\trule\t2\t0") ∷ (
    (codes "plant\ttide\t2\tgroups\t5\t2\t5\t2", codes "no\trule\t1\t0") ∷ (
    (codes "plant\ttide\t0\tcount\t3\t1", codes "no\trule\t1\t0") ∷ (
    (codes "plant\ttide\t33\tcount\t4\t2", codes "no\trule\t2\t0") ∷ (
    (codes "plant\ttide\t33\tcount\t3\t1", codes "no\trule\t1\t0") ∷ (
    ([], codes "no\ttext\t13\t0") ∷ (
    (codes "Plant\ttide\t2\tcount\t3\t1", codes "no\ttext\t13\t0") ∷ (
    (codes "plant tide 2 count 3 1", codes "no\ttext\t13\t0") ∷ (
    (codes "plant", codes "no\ttext\t14\t0") ∷ (
    (codes "plant\ttide\t2", codes "no\ttext\t14\t0") ∷ (
    (codes "plant\ttide\t2\tcounts\t3\t1", codes "no\ttext\t13\t3") ∷ (
    (codes "plant\ttide\t2\t\t3\t1", codes "no\ttext\t13\t3") ∷ (
    (codes "plant\ttides\t2\tcount\t3", codes "no\ttext\t14\t0") ∷ (
    (codes "plant\tboat\tx\tlead\t1\t1", codes "no\ttext\t14\t0") ∷ (
    (codes "plant\ttide\t2\tcount\t3\t1\t", codes "no\ttext\t14\t0") ∷ (
    (codes "plant\ttides\tx\tcount\t3\t1", codes "no\ttext\t13\t1") ∷ (
    (codes "plant\t\t2\tcount\t3\t1", codes "no\ttext\t13\t1") ∷ (
    (codes "plant\ttide\tx\tcount\t3\t1", codes "no\ttext\t15\t2") ∷ (
    (codes "plant\ttide\t\tcount\t3\tx", codes "no\ttext\t15\t2") ∷ (
    (codes "plant\ttide\t2\tcount\t3\t-1", codes "no\ttext\t15\t5") ∷ (
    (codes "plant\ttide\t2\tlead\t0\t3\t1234567", codes "no\ttext\t15\t6") ∷ (
    (codes "plant\ttide\t2\tgroups\t3\t1\t2\t-0", codes "no\ttext\t15\t7") ∷ (
    (codes "plant\ttide\t2\tcount\t3\t1" ++ (13 ∷ []), codes "no\ttext\t12\t0") ∷ []))))))))))))))))))))))))))))))))

-- The line that a register of tides answers.
abbrev pub answered : ℕ → LineAnswer Tide → List ℕ
answered n answer = line_shown tide_shown n answer

-- The lines that answer calls, then the answers that are in no script, and the one to a script that is too long.
abbrev pub answer_lines : List (List ℕ × List ℕ)
answer_lines =
    (answered 2 (answer_of (Ok (Reply.Started 1))), codes "2\tok\t1\n") ∷ (
    (answered 3 (answer_of (Ok Reply.Done)), codes "3\tok\t0\n") ∷ (
    (answered 12 (answer_of (Ok (Reply.Finished 2 0 tide_start 10 4))), codes "12\tdone\t2\t0\t0\t0\t10\t4\n") ∷ (
    (answered 13 (answer_of (Err Refusal.Busy)), codes "13\tno\tplant\t7\t0\n") ∷ (
    (answered 14 (answer_of (Err Refusal.TableLength)), codes "14\tno\tplant\t3\t0\n") ∷ (
    (answered 15 (answer_of (Err Refusal.Unsound)), codes "15\tno\tplant\t4\t0\n") ∷ (
    (answered 16 (answer_of (Err Refusal.StampAhead)), codes "16\tno\tplant\t11\t0\n") ∷ (
    (answered 17 (Err ScriptFault.Print), codes "17\tno\tprint\t16\t0\n") ∷ (
    (answered 0 (Err (ScriptFault.Text TextFault.NotText)), codes "0\tno\ttext\t12\t0\n") ∷ []))))))))
