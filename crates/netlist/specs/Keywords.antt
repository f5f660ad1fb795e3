-- The words that name declarations and gates.
use Rattle.std.specs.Prelude.{if◌then◌else◌, ℕ, List, Some, None, codes, Option}
use Rattle.std.specs.Str.{bytes_eq}
use Rattle.circuit.specs.declared.kind.Kind.{Kind}
use Rattle.circuit.specs.declared.kind.Kind.TheVariants.{And, Nand, Or, Nor, Xor, Xnor, Not, Buff}
use Rattle.netlist.specs.declared.keyword.Port.{Port}
use Rattle.netlist.specs.declared.keyword.Port.TheVariants.{Input, Output}

abbrev pub port_of : List ℕ → Option Port
port_of w =
    if bytes_eq w (codes "INPUT") then Some Input
    else (if bytes_eq w (codes "OUTPUT") then Some Output else None)

abbrev pub kind_of : List ℕ → Option Kind
kind_of w =
    if bytes_eq w (codes "AND") then Some And
    else (if bytes_eq w (codes "NAND") then Some Nand
    else (if bytes_eq w (codes "OR") then Some Or
    else (if bytes_eq w (codes "NOR") then Some Nor
    else (if bytes_eq w (codes "XOR") then Some Xor
    else (if bytes_eq w (codes "XNOR") then Some Xnor
    else (if bytes_eq w (codes "NOT") then Some Not
    else (if bytes_eq w (codes "BUFF") then Some Buff else None)))))))
