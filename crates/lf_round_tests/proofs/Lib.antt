mod NamedRows
